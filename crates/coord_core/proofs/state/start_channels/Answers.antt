use Rattle.axis_sets.specs.declared.limits.TheConstants.{CHANNEL_PLACES}
use Rattle.std.proofs.Common.{◌≡◌, true, false, List, ◌++◌, length, length-append, sym, ap, ◌∙◌, arith}
use Rattle.axis_sets.specs.Sets.{has}
use Rattle.coord_core.specs.Tables.{board_in}
use Rattle.std.specs.List.{range_with_len}
use Rattle.std.proofs.Common.{filter, ◌+◌, ◌-◌}
use Rattle.coord_core.proofs.Rules.{goes_of, goes_more, goes_as_before, written_more, written_above, unwritten_more, written_all, members_are, goes_all}
use Rattle.coord_core.specs.declared.activities.Activity.TheVariants.{Running}
use Rattle.sync_types.specs.declared.Grant.{Grant}
use Rattle.sync_types.specs.declared.runs.Go.{Go}
use Rattle.sync_types.specs.Boards.{start_grant}
use Rattle.sync_types.specs.GoingOn.{going_of_start}
use Rattle.coord_core.proofs.state.start_channels.Goals.{then-contains, else-contains}
use Rattle.coord_core.proofs.state.start_channels.Goals as goal

pub loop-number-preserved : goal.loop-number-preserved
loop-number-preserved c = elim c.if-contains.branch [
  | then-contains w ↦
      let on : has c.args.named c.loop-number.number ≡ true = sym c.contains.ensures.member ∙ w.if-contains.true in
      let go : Go = record { channel = c.loop-number.number; grant = w.start_grant-grant.result } in
      rw (w.channels-is, w.goes-is) (
        omega (arith, simp length-append at (ap (λ (gs : List Go). length gs) w.push.ensures.items), c.loop-number.invariant.0),
        goes_more (going_of_start (board_in c.args.table.now c.args.channels.now)) (has c.args.named) c.loop-number.number _ c.loop-number.goes.items go c.loop-number-test.true on
            (ap (λ (g : Grant). record { channel = c.loop-number.number; grant = g }) (w.start_grant-grant.ensures c.args.channels.now)) c.loop-number.invariant.1
            ∙ ap (λ (gs : List Go). gs ++ goes_of (going_of_start (board_in c.args.table.now c.args.channels.now)) (filter (has c.args.named) (range_with_len (c.loop-number.number + 1) (CHANNEL_PLACES - (c.loop-number.number + 1))))) (sym w.push.ensures.items),
        written_more c.args.channels.now c.loop-number.channels _ (has c.args.named) (λ d. Running (start_grant (board_in c.args.table.now c.args.channels.now) d)) c.loop-number.number _ on
            (w.running.ensures ∙ ap Running (w.start_grant-grant.ensures c.args.channels.now)) w.set_activity.ensures c.loop-number.invariant.2,
        written_above c.args.channels.now c.loop-number.channels _ c.loop-number.number _ w.set_activity.ensures c.loop-number.invariant.3,
      )
  | else-contains w ↦
      let off : has c.args.named c.loop-number.number ≡ false = sym c.contains.ensures.member ∙ w.if-contains.false in
      rw (w.channels-is, w.goes-is) (
        omega (arith, c.loop-number.invariant.0),
        goes_as_before (going_of_start (board_in c.args.table.now c.args.channels.now)) (has c.args.named) c.loop-number.number _ c.loop-number.goes.items c.loop-number-test.true off c.loop-number.invariant.1,
        unwritten_more c.args.channels.now c.loop-number.channels (has c.args.named) (λ d. Running (start_grant (board_in c.args.table.now c.args.channels.now) d)) c.loop-number.number off (c.loop-number.invariant.3 c.loop-number.number (omega arith)) c.loop-number.invariant.2,
        λ x from. c.loop-number.invariant.3 x (omega arith),
      )
]

pub returns-clause-channels : goal.returns-clause-channels
returns-clause-channels c =
    written_all c.args.channels.now c.loop-number.channels c.args.named (λ d. Running (start_grant (board_in c.args.table.now c.args.channels.now) d)) c.loop-number.number (omega arith) c.requires.size c.loop-number.invariant.2 c.loop-number.invariant.3

pub returns-clause-goes : goal.returns-clause-goes
returns-clause-goes c =
    let all : c.loop-number.number ≡ CHANNEL_PLACES = omega arith in
    goes_all (going_of_start (board_in c.args.table.now c.args.channels.now)) c.args.named c.loop-number.goes.items
    (members_are c.args.named c.requires.size c.requires.none) (rw all at c.loop-number.invariant.1)
