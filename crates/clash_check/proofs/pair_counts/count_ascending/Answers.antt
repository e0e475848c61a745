use Rattle.std.proofs.Common.{◌≡◌, ◌∙◌, ◌+◌, ◌<◌, List, drop, get_or, refl, sym, ap, subst, ℕ, Bool, arith}
use Rattle.std.specs.List.{sum_by}
use Rattle.std.proofs.lemmas.List.Sums.{sum_by-drop_more}
use Rattle.order_clocks.specs.Tells.{is_before_in}
use Rattle.zone_stretches.proofs.ChainLaws.{passing_at}
use Rattle.clash_check.proofs.TimeLaws.{counted_more, counted_all, sum_past}
use Rattle.zone_stretches.proofs.WalkLaws.{places_of, walk_on}
use Rattle.zone_stretches.specs.Ascents.{IsBetween, PassFirst, passes}
use Rattle.clash_check.specs.PairCounts.{count_against}
use Rattle.clash_check.specs.Running.{IsSum}
use Rattle.zone_stretches.specs.Stretches.{StretchView}
use Rattle.clash_check.proofs.pair_counts.count_ascending.Goals as goal

pub range_of-range-requires-clause-known : goal.range_of-range-requires-clause-known
range_of-range-requires-clause-known c on =
    subst (λ (x : StretchView). IsBetween (is_before_in c.args.clocks.now.rows) x c.args.others.now c.loop-left.walk.range c.loop-left.walk.limit) (sym c.left-item.is)
    ((c.loop-left.invariant.4 on).1 c.loop-left.left-index c.left-item.result (omega arith) c.loop-left-test.true)

pub range_of-range-requires-clause-passing : goal.range_of-range-requires-clause-passing
range_of-range-requires-clause-passing c =
    subst (λ (x : StretchView). (ended : Bool) → PassFirst (passes (is_before_in c.args.clocks.now.rows) ended x) c.args.others.now) (sym c.left-item.is)
    (passing_at (is_before_in c.args.clocks.now.rows) c.args.own.now c.args.others.now c.loop-left.left-index c.left-item.result c.requires.timed c.requires.ascend c.loop-left-test.true)

pub count_in_range-requires-clause-passing : goal.count_in_range-requires-clause-passing
count_in_range-requires-clause-passing c =
    subst (λ (x : StretchView). (ended : Bool) → PassFirst (passes (is_before_in c.args.clocks.now.rows) ended x) c.args.others.now) (sym c.left-item.is)
    (passing_at (is_before_in c.args.clocks.now.rows) c.args.own.now c.args.others.now c.loop-left.left-index c.left-item.result c.requires.timed c.requires.ascend c.loop-left-test.true)

pub loop-left-preserved : goal.loop-left-preserved
loop-left-preserved c =
    let found : StretchView → ℕ = count_against (is_before_in c.args.clocks.now.rows) c.args.others.now in (
      counted_more c.loop-left.count c.saturating_add-count.result _ c.count_in_range.result _ _ (sum_by found c.args.own.now) c.count_in_range.ensures c.saturating_add-count.ensures
          (sum_by-drop_more found c.args.own.now c.loop-left.left-index c.left-item.result (omega arith)
          ∙ ap (λ (x : StretchView). found x + sum_by found (drop (c.loop-left.left-index + 1) c.args.own.now)) (sym c.left-item.is)) c.loop-left.invariant.0,
      at_place c.args.others.now _ _ _ c.boxes_before-before.ensures.place c.boxes_before-before.ensures.boxes,
      at_place c.args.others.now _ _ _ c.boxes_before-upto.ensures.place c.boxes_before-upto.ensures.boxes,
      λ channel k d low before. c.mark_latest.ensures channel k d low (subst (λ (n : ℕ). k < n) c.boxes_before-upto.ensures.place before),
      walk_on (is_before_in c.args.clocks.now.rows) c.args.own.now c.args.others.now c.requires.timed c.loop-left.walk _ c.loop-left.left-index c.left-item.result c.loop-left-test.true refl refl
          (places_of (is_before_in c.args.clocks.now.rows) c.args.own.now c.args.others.now c.requires.timed c.left-item.result (get_or c.args.own.now c.loop-left.left-index c.left-item.result) c.range_of-range.result
          c.left-item.is c.range_of-range.ensures.from c.range_of-range.ensures.upto)
          c.loop-left.invariant.4,
    )
  where
    at_place : (others : List StretchView) (place place' boxes : ℕ) → place' ≡ place → IsSum others place boxes → IsSum others place' boxes
    at_place others place place' boxes same sum = subst (λ (n : ℕ). IsSum others n boxes) (sym same) sum

pub returns : goal.returns
returns c = counted_all c.loop-left.count _ _ (sum_past (count_against (is_before_in c.args.clocks.now.rows) c.args.others.now) c.args.own.now c.loop-left.left-index (omega arith)) c.loop-left.invariant.0
