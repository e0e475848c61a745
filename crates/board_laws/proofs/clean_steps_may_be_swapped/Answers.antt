-- Two steps in either order.
use Rattle.board_laws.proofs.Back.{turned}
use Rattle.board_laws.proofs.Law.{swap_turns}
use Rattle.board_laws.proofs.clean_steps_may_be_swapped.Goals as goal

pub returns : goal.returns
returns c = λ b p q p_step q_step rests pq run_p run_q clean_p clean_q. swap_turns b p q p_step q_step rests pq (turned p q pq) run_p run_q clean_p clean_q
