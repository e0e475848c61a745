use Rattle.std.proofs.Common.{arith}
use Rattle.ticket_board.proofs.Keeps.{serves}
use Rattle.ticket_board.proofs.steps.serve.Goals as goal

pub fetch_add-requires : goal.fetch_add-requires
fetch_add-requires c = let h = c.requires.holds in (c.requires.table.0, omega (arith, c.requires.table.1), serves _ _ _ _ _ _ _ h.3 h.4 h.5 h.6 h.7)
