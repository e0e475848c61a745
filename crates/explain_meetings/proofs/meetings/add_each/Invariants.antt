use Rattle.std.proofs.Common.{◌≡◌, ◌++◌, drop}
use Rattle.std.specs.List.{flat_map}
use Rattle.order_clocks.specs.Tells.{is_before_in}
use Rattle.explain_meetings.specs.KeptBoxes.{AreKept}
use Rattle.explain_meetings.specs.MeetingSteps as model
use Rattle.zone_stretches.specs.Cases.{place_of}
use Rattle.explain_meetings.proofs.meetings.add_each.Given as goal

abbrev pub invariant-loop-place : goal.invariant-loop-place
invariant-loop-place l = record {
  met : l.list.items ++ flat_map (model.met_one (record { job = l.two.scene.now.job.now; run = l.two.scene.now.run.now; before = is_before_in l.two.scene.now.clocks.now.rows }) (place_of l.two.left.now.zone.now l.two.left.now.stretch.now l.own.whole.now) l.two.right.now.zone.now l.two.right.now.stretch.now) (drop l.place l.laters)
      ≡ l.initial.list.items ++ flat_map (model.met_one (record { job = l.two.scene.now.job.now; run = l.two.scene.now.run.now; before = is_before_in l.two.scene.now.clocks.now.rows }) (place_of l.two.left.now.zone.now l.two.left.now.stretch.now l.own.whole.now) l.two.right.now.zone.now l.two.right.now.stretch.now) l.laters;
  kept : AreKept l.two.scene.now.job.now l.two.scene.now.run.now l.two.right.now.zone.now l.two.right.now.stretch.now l.kept.items;
}
