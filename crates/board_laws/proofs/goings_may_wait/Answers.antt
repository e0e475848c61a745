-- What goes on may wait.
use Rattle.board_laws.proofs.HalfLaw.{goings_wait}
use Rattle.board_laws.proofs.goings_may_wait.Goals as goal

pub returns : goal.returns
returns g = λ b p q p_step q_step rests pq run. goings_wait b p q p_step q_step rests pq run
