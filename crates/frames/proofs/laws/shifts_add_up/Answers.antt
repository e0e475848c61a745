use Rattle.frames.proofs.ChainLaws.{shifts-total}
use Rattle.frames.proofs.laws.shifts_add_up.Goals as goal

pub returns : goal.returns
returns c = shifts-total
