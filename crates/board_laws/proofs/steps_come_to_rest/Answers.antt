-- After a step.
use Rattle.board_laws.proofs.Law.{turn_rests}
use Rattle.board_laws.proofs.steps_come_to_rest.Goals as goal

pub returns : goal.returns
returns g = λ b p step rests. turn_rests b p step rests
