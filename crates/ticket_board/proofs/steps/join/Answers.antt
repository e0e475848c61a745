use Rattle.std.proofs.Common.{arith}
use Rattle.ticket_board.proofs.Cuts.{joins}
use Rattle.ticket_board.proofs.steps.join.Goals as goal

pub join_seat-requires : goal.join_seat-requires
join_seat-requires c = let h = c.requires.idle in (c.requires.table.0, c.requires.table.1, h.2, omega (arith, c.requires.table.2), joins _ _ _ _ _ h.0 h.1)
