use Rattle.coord_core.proofs.Outcomes.{tells_what_is}
use Rattle.coord_core.proofs.laws.a_look_tells_what_is.Goals as goal

pub returns : goal.returns
returns c = tells_what_is
