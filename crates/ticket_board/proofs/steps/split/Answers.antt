use Rattle.std.proofs.Common.{arith}
use Rattle.ticket_board.proofs.Cuts.{splits}
use Rattle.ticket_board.proofs.steps.split.Goals as goal

pub split_seat-requires : goal.split_seat-requires
split_seat-requires c = (c.requires.table.0, omega (arith, c.requires.table.1), splits _ _ _ c.requires.idle)
