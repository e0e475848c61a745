-- The steps so far are read and told.
use Rattle.order_clocks.specs.Clocked.{moves_in}
use Rattle.order_clocks.specs.Happenings.{board_at}
use Rattle.order_clocks.specs.StepReading.{IsAtStep}
use Rattle.order_clocks.specs.Stops.{IsWhole}
use Rattle.explain_ends.specs.LastBoards.{IsTold}
use Rattle.sync_types.specs.Boards.{Board}
use Rattle.explain_ends.proofs.boards.board_after.Given as goal

abbrev pub invariant-loop-place : goal.invariant-loop-place
invariant-loop-place l = record {
  reader : (b : Board) → IsWhole b l.entries l.ends → IsAtStep b l.entries l.place l.reader;
  told : (b : Board) → IsWhole b l.entries l.ends → IsTold l.fn.first b → IsTold l.board (board_at b (moves_in l.entries) l.place);
}
