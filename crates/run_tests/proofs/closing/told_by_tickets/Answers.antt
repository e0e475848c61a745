use Rattle.std.proofs.Common.{All, subst, sym}
use Rattle.ticket_board.proofs.Passes.{fresh_fit}
use Rattle.ticket_board.specs.Passes.{IsPassOf, TicketBoardView}
use Rattle.run_tests.proofs.closing.told_by_tickets.Goals as goal

pub wait_all-requires-after_bounds : goal.wait_all-requires-after_bounds
wait_all-requires-after_bounds g c κs within = let desk : TicketBoardView = c.in-Ok.desk in subst (All (IsPassOf desk)) (sym c.in-Ok.ensures.passes) (fresh_fit desk)
