use Rattle.std.proofs.Common.{All}
use Rattle.explain_meetings.proofs.SeenLaws.{IsSeen}
use Rattle.explain_meetings.specs.NearSteps.{AreNearestSoFar}
use Rattle.order_clocks.specs.Tells.{is_before_in}
use Rattle.zone_stretches.specs.StretchPairs.{boxes_with}
use Rattle.zone_stretches.specs.TimedZones.{AreTimed, each_two}
use Rattle.explain_meetings.proofs.nearest.nearest_in.Given as goal

abbrev pub invariant-loop-pair : goal.invariant-loop-pair
invariant-loop-pair l =
    All (AreTimed (is_before_in l.scene.clocks.now.rows)) l.pair-iterator
    × IsSeen (boxes_with (is_before_in l.scene.clocks.now.rows)) (λ pairs. AreNearestSoFar l.scene.job.now l.scene.run.now pairs l.near.items) l.pair-iterator (each_two l.fn.zones)
