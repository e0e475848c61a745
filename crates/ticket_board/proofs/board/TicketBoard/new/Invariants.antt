use Rattle.std.proofs.Common.{map, ◌≡◌, [], ◌++◌}
use Rattle.ticket_board.proofs.Passes.{channels_from}
use Rattle.ticket_board.specs.Rule.{fresh_part}
use Rattle.ticket_board.specs.Turns.{first_pass}
use Rattle.ticket_board.specs.declared.rule.Stage.TheVariants.{Idle}
use Rattle.ticket_board.proofs.board.TicketBoard.new.Given as goal

abbrev pub invariant-loop-number : goal.invariant-loop-number
invariant-loop-number l = (l.seat.table_id ≡ l.table.shared.table_id) × (l.seat.me ≡ (record { start = l.start; parts = map fresh_part (channels_from l.start l.number); stage = Idle }, []))
    × (l.passes.items ++ map (first_pass l.table.shared.table_id l.start) (channels_from l.start l.number) ≡ map (first_pass l.table.shared.table_id l.start) (channels_from l.start 1))
