use Rattle.std.proofs.Common.{List, ◌++◌, take}
use Rattle.std.specs.List.{flat_map}
use Rattle.explain_meetings.specs.KeptBoxes.{AreKept}
use Rattle.explain_meetings.specs.NearSteps.{pairs_by}
use Rattle.explain_meetings.specs.PassedOwns.{AreLookedAt}
use Rattle.zone_stretches.specs.Cases.{place_of}
use Rattle.zone_stretches.specs.Overlaps.{Pair}
use Rattle.explain_meetings.proofs.nearest.look_owns.Given as goal

abbrev pub invariant-loop-own : goal.invariant-loop-own
invariant-loop-own l = record {
  near : (seen : List Pair) → AreLookedAt l.two.scene.now.job.now l.two.scene.now.run.now l.two.left.now.zone.now l.two.right.now.zone.now l.two.right.now.stretch.now seen l.initial.rows.items l.initial.passed
      → AreLookedAt l.two.scene.now.job.now l.two.scene.now.run.now l.two.left.now.zone.now l.two.right.now.zone.now l.two.right.now.stretch.now
      (seen ++ flat_map (λ own. pairs_by l.two.right.now.zone.now l.two.right.now.stretch.now (place_of l.two.left.now.zone.now l.two.left.now.stretch.now own)) (take l.own-index l.owns)) l.rows.items l.passed;
  kept : AreKept l.two.scene.now.job.now l.two.scene.now.run.now l.two.right.now.zone.now l.two.right.now.stretch.now l.kept.items;
}
