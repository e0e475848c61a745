-- Steps are acts.
use Rattle.board_laws.proofs.Actions.{act_is}
use Rattle.board_laws.proofs.steps_are_acts.Goals as goal

pub returns : goal.returns
returns g = λ b p step. act_is b p step
