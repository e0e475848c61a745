use Rattle.std.proofs.Common.{arith}
use Rattle.ticket_board.proofs.Keeps.{reads}
use Rattle.ticket_board.proofs.steps.read.Goals as goal

pub load-requires : goal.load-requires
load-requires c = (c.requires.table.0, omega (arith, c.requires.table.1), reads _ _ _ _ _ c.requires.waits.1.1 c.requires.waits.0)
