use Rattle.std.proofs.Common.{List, length, map, ◌≡◌, [], ◌++◌}
use Rattle.ticket_board.specs.Passes.{TicketPassView}
use Rattle.ticket_board.specs.Turns.{part_in}
use Rattle.ticket_board.specs.declared.rule.Stage.TheVariants.{Idle}
use Rattle.ticket_board.proofs.board.TicketBoard.finish.Given as goal

abbrev pub invariant-loop-pass : goal.invariant-loop-pass
invariant-loop-pass l = (l.all.table_id ≡ l.table.shared.table_id) × (l.all.me.1 ≡ []) × (l.all.me.0.stage ≡ Idle)
    × ((done : List TicketPassView) × (l.fn.passes.items ≡ l.passes.items ++ done) × (l.all.me.0.parts ≡ map part_in done))

abbrev pub decreases-loop-pass : goal.decreases-loop-pass
decreases-loop-pass l = length l.passes.items
