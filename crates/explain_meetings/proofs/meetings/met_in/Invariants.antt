use Rattle.std.proofs.Common.{◌≡◌, ◌++◌, All}
use Rattle.std.specs.List.{flat_map}
use Rattle.explain_meetings.specs.Contexts.{case_of}
use Rattle.explain_meetings.specs.MeetingSteps as model
use Rattle.order_clocks.specs.Tells.{is_before_in}
use Rattle.zone_stretches.specs.TimedZones.{AreTimed, each_two}
use Rattle.explain_meetings.proofs.meetings.met_in.Given as goal

abbrev pub invariant-loop-pair : goal.invariant-loop-pair
invariant-loop-pair l =
    All (AreTimed (is_before_in l.scene.clocks.now.rows)) l.pair-iterator
    × (l.list.items ++ flat_map (model.met_with (case_of l.scene)) l.pair-iterator ≡ flat_map (model.met_with (case_of l.scene)) (each_two l.fn.zones))
