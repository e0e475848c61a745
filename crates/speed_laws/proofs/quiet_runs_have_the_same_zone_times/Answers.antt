use Rattle.speed_laws.proofs.AlikeRuns.{quiet_runs_have_the_same_zone_times}
use Rattle.speed_laws.proofs.quiet_runs_have_the_same_zone_times.Goals as goal

pub returns : goal.returns
returns c = quiet_runs_have_the_same_zone_times
