use Rattle.speed_laws.proofs.PastEvents.{runs_are_cuts}
use Rattle.speed_laws.proofs.runs_are_cuts.Goals as goal

pub returns : goal.returns
returns c = runs_are_cuts
