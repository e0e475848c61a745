use Rattle.std.proofs.Common.{arith}
use Rattle.ticket_board.proofs.Keeps.{draws}
use Rattle.ticket_board.proofs.steps.draw.Goals as goal

pub fetch_add-requires : goal.fetch_add-requires
fetch_add-requires c = (c.requires.table.0, omega (arith, c.requires.table.1), draws _ _ _ _ c.requires.idle.0 c.requires.idle.1)
