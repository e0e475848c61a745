use Rattle.std.proofs.Common.{◌≡◌, ◌++◌, drop}
use Rattle.std.specs.List.{flat_map}
use Rattle.order_clocks.specs.Tells.{is_before_in}
use Rattle.explain_meetings.specs.KeptBoxes.{AreKept}
use Rattle.explain_meetings.specs.MeetingSteps as model
use Rattle.zone_stretches.specs.Cases.{place_of}
use Rattle.explain_meetings.proofs.meetings.add_owns.Given as goal

abbrev pub invariant-loop-own : goal.invariant-loop-own
invariant-loop-own l = record {
  met : l.list.items ++ flat_map (λ own. model.met_by (record { job = l.two.scene.now.job.now; run = l.two.scene.now.run.now; before = is_before_in l.two.scene.now.clocks.now.rows }) l.two.right.now.zone.now l.two.right.now.stretch.now (place_of l.two.left.now.zone.now l.two.left.now.stretch.now own)) (drop l.own-index l.owns)
      ≡ l.initial.list.items ++ flat_map (λ own. model.met_by (record { job = l.two.scene.now.job.now; run = l.two.scene.now.run.now; before = is_before_in l.two.scene.now.clocks.now.rows }) l.two.right.now.zone.now l.two.right.now.stretch.now (place_of l.two.left.now.zone.now l.two.left.now.stretch.now own)) l.owns;
  kept : AreKept l.two.scene.now.job.now l.two.scene.now.run.now l.two.right.now.zone.now l.two.right.now.stretch.now l.kept.items;
}
