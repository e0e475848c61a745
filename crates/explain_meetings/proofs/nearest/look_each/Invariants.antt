use Rattle.std.proofs.Common.{List, ◌++◌, take}
use Rattle.std.specs.List.{flat_map}
use Rattle.explain_meetings.specs.KeptBoxes.{AreKept}
use Rattle.explain_meetings.specs.NearSteps.{AreNearestSoFar, pair_where}
use Rattle.zone_stretches.specs.Cases.{place_of}
use Rattle.zone_stretches.specs.Overlaps.{Pair}
use Rattle.explain_meetings.proofs.nearest.look_each.Given as goal

abbrev pub invariant-loop-place : goal.invariant-loop-place
invariant-loop-place l = record {
  near : (seen : List Pair) → AreNearestSoFar l.two.scene.now.job.now l.two.scene.now.run.now seen l.initial.rows.items
      → AreNearestSoFar l.two.scene.now.job.now l.two.scene.now.run.now (seen ++ flat_map (pair_where (place_of l.two.left.now.zone.now l.two.left.now.stretch.now l.own.whole.now) l.two.right.now.zone.now l.two.right.now.stretch.now) (take l.place l.laters)) l.rows.items;
  kept : AreKept l.two.scene.now.job.now l.two.scene.now.run.now l.two.right.now.zone.now l.two.right.now.stretch.now l.kept.items;
}
