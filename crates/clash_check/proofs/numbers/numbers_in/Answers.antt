use Rattle.std.proofs.Common.{◌∙◌, List, ◌++◌, All, ap, subst}
use Rattle.std.specs.List.{flat_map}
use Rattle.std.proofs.lemmas.List.Elements.{All-tail}
use Rattle.order_clocks.specs.Tells.{is_before_in}
use Rattle.clash_check.proofs.NumberLaws.{added_part}
use Rattle.clash_check.specs.NumberSteps.{row_with}
use Rattle.clash_check.specs.PairNumbers.{some_number}
use Rattle.clash_check.specs.declared.numbers.PairNumber.{PairNumber}
use Rattle.zone_stretches.specs.Overlaps.{Order}
use Rattle.zone_stretches.specs.TimedZones.{AreTimed, TimedZoneView}
use Rattle.clash_check.proofs.numbers.numbers_in.Goals as goal

pub loop-pair-preserved : goal.loop-pair-preserved
loop-pair-preserved c =
    let before : Order = is_before_in c.args.clocks.now.rows in (
      All-tail (AreTimed before) c.in-Some.pair c.next.new.self (subst (λ (pairs : List (TimedZoneView × TimedZoneView)). All (AreTimed before) pairs) c.in-Some.ensures.steps c.loop-pair.invariant.0),
      added_part c.loop-pair.rows.items c.add_some.new.rows.items _ _ _ _
          (c.in_ok-add_some.ensures ∙ ap (λ (row : PairNumber). c.loop-pair.rows.items ++ some_number row) c.number_with.ensures)
          (ap (flat_map (row_with before)) c.in-Some.ensures.steps) c.loop-pair.invariant.1,
    )
