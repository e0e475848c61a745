use Rattle.order_clocks.specs.declared.events.TheConstants.{EVENT_PLACES}
use Rattle.std.proofs.Common.{◌≡◌, length, None, slice_index_or, sym, ◌∙◌, rules, arith}
use Rattle.std.proofs.lemmas.List.{get_or_default}
use Rattle.order_clocks.proofs.PairLaws.{over_step, over_skip}
use Rattle.order_clocks.proofs.pairs.least_over.Goals as goal
use Rattle.order_clocks.proofs.pairs.least_over.Goals.{in-None, in-Some}

pub loop-k-preserved : goal.loop-k-preserved
loop-k-preserved c =
    let size : length c.args.events.now ≡ EVENT_PLACES = search rules in
    let low = c.loop-k-test.true in
    let back : slice_index_or c.args.events.now c.loop-k.k None ≡ slice_index_or c.args.events.now c.loop-k.k c.index-events-k.result = sym (get_or_default c.args.events.now c.loop-k.k c.index-events-k.result None (omega arith)) in
    elim c.match-events-k.branch [
      | in-None w ↦ rw w.least-is (over_skip c.args.meeting.now c.args.events.now c.loop-k.k c.args.late.now c.args.start c.loop-k.least (back ∙ w.in-None.is) c.loop-k.invariant)
      | in-Some w ↦ rw w.least-is (over_step c.args.meeting.now c.args.events.now c.loop-k.k c.args.late.now w.in-Some.early c.args.start c.loop-k.least w.least_pair-least.result (back ∙ w.in-Some.is) c.loop-k.invariant w.least_pair-least.ensures)
    ]
