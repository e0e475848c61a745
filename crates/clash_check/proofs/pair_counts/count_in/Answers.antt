use Rattle.std.proofs.Common.{◌∙◌, ℕ, List, All, ap, subst}
use Rattle.std.specs.List.{sum_by}
use Rattle.std.proofs.lemmas.List.Elements.{All-tail}
use Rattle.std.proofs.lemmas.List.Sums.{sum_by-cons}
use Rattle.order_clocks.specs.Tells.{is_before_in}
use Rattle.clash_check.proofs.TimeLaws.{counted_more}
use Rattle.clash_check.specs.PairCounts.{count_with}
use Rattle.zone_stretches.specs.Overlaps.{Order}
use Rattle.zone_stretches.specs.TimedZones.{AreTimed, TimedZoneView}
use Rattle.clash_check.proofs.pair_counts.count_in.Goals as goal

pub loop-pair-preserved : goal.loop-pair-preserved
loop-pair-preserved c =
    let before : Order = is_before_in c.args.clocks.now.rows in
    let found : TimedZoneView × TimedZoneView → ℕ = count_with before in (
      All-tail (AreTimed before) c.in-Some.pair c.next.new.self (subst (λ (pairs : List (TimedZoneView × TimedZoneView)). All (AreTimed before) pairs) c.in-Some.ensures.steps c.loop-pair.invariant.0),
      counted_more c.loop-pair.count c.saturating_add-count.result _ c.count_of_zones.result _ _ _ c.count_of_zones.ensures c.saturating_add-count.ensures
          (ap (sum_by found) c.in-Some.ensures.steps ∙ sum_by-cons found c.in-Some.pair c.next.new.self) c.loop-pair.invariant.1,
    )
