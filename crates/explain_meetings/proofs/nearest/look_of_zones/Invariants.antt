use Rattle.std.proofs.Common.{List, ◌++◌}
use Rattle.explain_meetings.proofs.SeenLaws.{IsSeen}
use Rattle.explain_meetings.specs.NearSteps.{AreNearestSoFar}
use Rattle.order_clocks.specs.Tells.{is_before_in}
use Rattle.zone_stretches.specs.Overlaps.{Pair}
use Rattle.zone_stretches.specs.StretchPairs.{boxes_of_pair, pairs_with}
use Rattle.explain_meetings.proofs.nearest.look_of_zones.Given as goal

abbrev pub invariant-loop-pair : goal.invariant-loop-pair
invariant-loop-pair l =
    IsSeen boxes_of_pair
    (λ pairs. (seen : List Pair) → AreNearestSoFar l.scene.job.now l.scene.run.now seen l.initial.rows.items → AreNearestSoFar l.scene.job.now l.scene.run.now (seen ++ pairs) l.rows.items) l.pair-iterator
    (pairs_with (is_before_in l.scene.clocks.now.rows) (l.fn.left, l.fn.right))
