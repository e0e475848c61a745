use Rattle.std.proofs.Common.{◌∙◌, List, ◌++◌, ap}
use Rattle.std.specs.List.{flat_map}
use Rattle.explain_meetings.proofs.AddLaws.{added_part}
use Rattle.explain_meetings.specs.Contexts.{case_of}
use Rattle.explain_meetings.specs.MeetingSteps.{met_of_pair}
use Rattle.zone_stretches.specs.Cases.{Case}
use Rattle.zone_stretches.specs.StretchPairs.{StretchPairView}
use Rattle.explain_meetings.proofs.meetings.add_of_zones.Goals as goal

pub loop-pair-preserved : goal.loop-pair-preserved
loop-pair-preserved c =
    let case : Case = case_of c.args.scene.now in
    added_part c.loop-pair.list.items c.add_in_boxes.new.list.items _ _ _ _
    (c.in_ok-add_in_boxes.ensures ∙ ap (λ (pair : StretchPairView). c.loop-pair.list.items ++ met_of_pair case pair) c.pair.view_is)
    (ap (flat_map (met_of_pair case)) c.in-Some.ensures.steps) c.loop-pair.invariant

pub loop-pair-init : goal.loop-pair-init
loop-pair-init c = ap (λ (pairs : List StretchPairView). c.args.list.now.items ++ flat_map (met_of_pair (case_of c.args.scene.now)) pairs) (c.into_iter-pair-iterator.ensures.into_iter_gives ∙ c.of-pair-items.ensures)
