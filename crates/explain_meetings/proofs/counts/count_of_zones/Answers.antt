use Rattle.std.proofs.Common.{◌≡◌, ◌∙◌, length, refl, sym, ap}
use Rattle.explain_meetings.proofs.CountLaws.{count_boxes, count_more}
use Rattle.explain_meetings.proofs.SeenLaws.{seen_start, seen_next, seen_end}
use Rattle.explain_meetings.specs.Groups.{capped}
use Rattle.order_clocks.specs.Tells.{is_before_in}
use Rattle.zone_stretches.specs.StretchPairs.{StretchPairView, boxes_of_pair, pairs_with}
use Rattle.explain_meetings.proofs.counts.count_of_zones.Goals as goal

pub loop-pair-init : goal.loop-pair-init
loop-pair-init c = seen_start boxes_of_pair (λ pairs. 0 ≡ capped (length pairs)) _ (pairs_with (is_before_in c.args.clocks.now.rows) (c.args.left.now, c.args.right.now)) (c.into_iter-pair-iterator.ensures.into_iter_gives ∙ c.of-pair-items.ensures) refl

pub loop-pair-preserved : goal.loop-pair-preserved
loop-pair-preserved c =
    seen_next boxes_of_pair (λ pairs. c.loop-pair.count ≡ capped (length pairs)) (λ pairs. c.saturating_add-count.result ≡ capped (length pairs)) _ c.next.new.self
    (pairs_with (is_before_in c.args.clocks.now.rows) (c.args.left.now, c.args.right.now)) c.in-Some.pair c.in-Some.ensures.steps
    (λ pairs so_far. count_more pairs (boxes_of_pair c.in-Some.pair) c.loop-pair.count c.count_in_boxes.result c.saturating_add-count.result
    (c.count_in_boxes.ensures ∙ ap capped (sym (count_boxes c.pair.inside.left.zone.now c.pair.inside.left.stretch.now c.pair.inside.right.zone.now c.pair.inside.right.stretch.now))
    ∙ ap (λ (pair : StretchPairView). capped (length (boxes_of_pair pair))) c.pair.view_is) c.saturating_add-count.ensures so_far) c.loop-pair.invariant

pub returns : goal.returns
returns c =
    seen_end boxes_of_pair (λ pairs. c.loop-pair.count ≡ capped (length pairs)) _ (pairs_with (is_before_in c.args.clocks.now.rows) (c.args.left.now, c.args.right.now)) c.in-None.ensures.steps.0
    c.loop-pair.invariant
