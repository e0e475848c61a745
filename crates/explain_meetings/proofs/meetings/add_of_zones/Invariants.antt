use Rattle.std.proofs.Common.{◌≡◌, ◌++◌}
use Rattle.std.specs.List.{flat_map}
use Rattle.explain_meetings.specs.Contexts.{case_of}
use Rattle.explain_meetings.specs.MeetingSteps as model
use Rattle.explain_meetings.proofs.meetings.add_of_zones.Given as goal

abbrev pub invariant-loop-pair : goal.invariant-loop-pair
invariant-loop-pair l = l.list.items ++ flat_map (model.met_of_pair (case_of l.scene)) l.pair-iterator ≡ l.initial.list.items ++ model.met_with (case_of l.scene) (l.fn.left, l.fn.right)
