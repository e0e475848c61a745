use Rattle.std.proofs.Common.{List, All, ap, subst}
use Rattle.std.specs.List.{flat_map}
use Rattle.std.proofs.lemmas.List.Elements.{All-tail}
use Rattle.order_clocks.specs.Tells.{is_before_in}
use Rattle.explain_meetings.proofs.AddLaws.{added_part}
use Rattle.explain_meetings.specs.Contexts.{case_of}
use Rattle.explain_meetings.specs.MeetingSteps.{met_with}
use Rattle.zone_stretches.specs.Overlaps.{Order}
use Rattle.zone_stretches.specs.TimedZones.{AreTimed, TimedZoneView}
use Rattle.explain_meetings.proofs.meetings.met_in.Goals as goal

pub loop-pair-preserved : goal.loop-pair-preserved
loop-pair-preserved c =
    let before : Order = is_before_in c.args.scene.now.clocks.now.rows in (
      All-tail (AreTimed before) c.in-Some.pair c.next.new.self (subst (λ (pairs : List (TimedZoneView × TimedZoneView)). All (AreTimed before) pairs) c.in-Some.ensures.steps c.loop-pair.invariant.0),
      added_part c.loop-pair.list.items c.add_of_zones.new.list.items _ _ _ _ c.in_ok-add_of_zones.ensures (ap (flat_map (met_with (case_of c.args.scene.now))) c.in-Some.ensures.steps) c.loop-pair.invariant.1,
    )
