use Rattle.axis_sets.specs.declared.limits.TheConstants.{CHANNEL_PLACES}
use Rattle.std.proofs.Common.{◌≡◌, ap, arith, map, sym, ◌+◌, ◌∙◌}
use Rattle.ticket_board.proofs.Passes.{all_cut, channels_from, has_next}
use Rattle.sync_types.specs.Views.{StartView}
use Rattle.ticket_board.specs.Passes.{channels_of}
use Rattle.ticket_board.specs.Turns.{first_pass}
use Rattle.ticket_board.specs.Rule.{fresh_part}
use Rattle.ticket_board.specs.Steps.{Mine}
use Rattle.ticket_board.proofs.board.TicketBoard.new.Goals as goal

pub cut-requires-clause-first : goal.cut-requires-clause-first
cut-requires-clause-first c = let i = c.loop-number.invariant in let n = c.loop-number.number in let s = c.args.start.now in
    (ap (λ (m : Mine). m.0.stage) i.1, (map fresh_part (channels_from s (n + 1)), ap (λ (m : Mine). m.0.parts) i.1 ∙ ap (map fresh_part) (has_next s n c.loop-number-test.true (sym c.has_channel.ensures ∙ c.if-has_channel.true))))

pub returns-clause-passes : goal.returns-clause-passes
returns-clause-passes c =
    let all : c.loop-number.number ≡ CHANNEL_PLACES = omega arith in
    all_cut c.in_ok-table.table.shared.table_id c.args.start.now c.loop-number.passes.items (rw all at c.loop-number.invariant.2)
    ∙ ap (λ (s : StartView). map (first_pass c.in_ok-table.table.shared.table_id s) (channels_of s)) (sym c.in_ok-table.ensures.4)
