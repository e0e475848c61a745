use Rattle.std.proofs.Common.{arith}
use Rattle.ticket_board.proofs.Keeps.{counts}
use Rattle.ticket_board.proofs.steps.count.Goals as goal

pub fetch_add-requires : goal.fetch_add-requires
fetch_add-requires g c = (c.requires.table.0, omega (arith, c.requires.table.1), counts _ _ _ _ _ _ _ _ c.requires.holds.1 c.requires.goes.1 c.requires.goes.2 c.requires.goes.3)
