use Rattle.std.proofs.Common.{◌≤◌, length}
use Rattle.job_types.specs.Job.{JobView}
use Rattle.job_types.specs.declared.job.ZoneLine.{ZoneLine}
use Rattle.explain_meetings.specs.KeptBoxes.{AreKept}
use Rattle.sync_types.specs.Views.{RunView}
use Rattle.zone_stretches.specs.Stretches.{StretchView}
use Rattle.explain_meetings.proofs.kept.have_places.Given as goal

abbrev pub invariant-loop-place : goal.invariant-loop-place
invariant-loop-place l = record {
  places : l.place ≤ length l.kept.items;
  kept : (job : JobView) → (run : RunView) → (zone : ZoneLine) → (stretch : StretchView) → AreKept job run zone stretch l.initial.kept.items → AreKept job run zone stretch l.kept.items;
}
