use Rattle.sync_types.proofs.Together.{stays_together}
use Rattle.sync_types.proofs.laws.axes_stay_together.Goals as goal

pub returns : goal.returns
returns c = stays_together
