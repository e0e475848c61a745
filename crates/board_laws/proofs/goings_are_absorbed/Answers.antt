-- What goes on is absorbed.
use Rattle.board_laws.proofs.HalfLaw.{goings_absorbed}
use Rattle.board_laws.proofs.goings_are_absorbed.Goals as goal

pub returns : goal.returns
returns g = λ t q step w. goings_absorbed t q step w
