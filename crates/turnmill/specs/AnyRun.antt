-- Law. Whichever run of a job is judged, without a race it has the report that the job calls for.
use Rattle.std.specs.Prelude.{◌≡◌, None}
use Rattle.job_types.specs.Job.{JobView}
use Rattle.job_types.specs.SoundJob.{IsSoundJob}
use Rattle.sync_types.specs.Views.{RunView}
use Rattle.sync_types.specs.declared.verdicts.Verdict.{Verdict}
use Rattle.turnmill.specs.Judged.{IsJudgedInAnyOrder}
use Rattle.turnmill.specs.Output.{CallsForReport}

abbrev pub QuietRunsAreReported : JobView → RunView → Verdict → Type 0
QuietRunsAreReported job run verdict = IsSoundJob job → (judged : IsJudgedInAnyOrder job run verdict) → judged.on.race ≡ None → CallsForReport job run verdict
