-- Steps. A judged job, with what the verdict rests on.
use Rattle.std.specs.Prelude.{◌≡◌}
use Rattle.job_types.specs.Job.{JobView}
use Rattle.order_clocks.specs.Clocked.{ClocksView}
use Rattle.order_clocks.specs.Tells.{is_before_in}
use Rattle.sync_types.specs.Views.{RunView}
use Rattle.sync_types.specs.declared.verdicts.Verdict.{Verdict}
use Rattle.turnmill.specs.Judged.{IsJudgedInAnyOrder, zone_time_in}
use Rattle.zone_stretches.specs.Stretches.{StretchesView}
use Rattle.zone_stretches.specs.Told.{IsTold}

-- the verdict on a run of the job, by these clocks and these stretches
pub record IsJudgedByClocks (job : JobView) (run : RunView) (clocks : ClocksView) (stretches : StretchesView) (verdict : Verdict) : Type 0 where
  pub judged : IsJudgedInAnyOrder job run verdict
  pub before_is : judged.on.before ≡ is_before_in clocks.rows
  pub race_is : judged.on.race ≡ clocks.race
  pub time_is : stretches ≡ zone_time_in job run
  pub told : IsTold job run stretches clocks
