-- Meaning. The verdict on a run of a job: the first that fits of RACE, ALARM, STUCK, UNDECIDED, NO and YES.
use Rattle.std.specs.Prelude.{nat_lt, if◌then◌else◌, find, Option, None, Some}
use Rattle.clash_check.specs.Counts.{count_of}
use Rattle.job_types.specs.Job.{JobView}
use Rattle.stop_verdicts.specs.FirstAnswer.{first_some}
use Rattle.zone_stretches.specs.Overlaps.{Order, BoxPlace, Pair, compared_pairs}
use Rattle.zone_stretches.specs.Pieces.{pair_meets}
use Rattle.zone_stretches.specs.Stretches.{StretchesView}
pub use Rattle.stop_verdicts.specs.Stops.{alarm_by, or_else, race_verdict, stops_of, stuck_by}
use Rattle.sync_types.specs.Views.{RunView}
use Rattle.sync_types.specs.declared.runs.Race.{Race}
use Rattle.sync_types.specs.declared.verdicts.PlaceName.{PlaceName}
use Rattle.sync_types.specs.declared.verdicts.Verdict.{Verdict}
use Rattle.sync_types.specs.declared.verdicts.Verdict.TheVariants as verdicts

-- ---- boxes that meet

-- a box as it is named: as its stretch, with the line of the box
unfoldable pub name_of : BoxPlace → PlaceName
name_of place = record place.stretch.name { line = place.box.line }

-- NO with the first compared pair that meets
abbrev pub no_by : Option Pair → Option Verdict
no_by None = None
no_by (Some pair) = Some (verdicts.No (name_of pair.0) (name_of pair.1))

unfoldable pub meeting_verdict : Order → JobView → RunView → StretchesView → Option Verdict
meeting_verdict before job run stretches = no_by (find (pair_meets job run) (compared_pairs before job stretches))

-- UNDECIDED where more pairs are to be compared than the job allows
unfoldable pub budget_verdict : Order → JobView → StretchesView → Option Verdict
budget_verdict before job stretches =
    if nat_lt job.budget (count_of before job stretches) then Some (verdicts.Undecided (count_of before job stretches) job.budget) else None

-- ---- the verdict

-- the verdict on a run of a job with this order of events, this first race and these stretches
unfoldable pub verdict_by : Order → Option Race → JobView → RunView → StretchesView → Verdict
verdict_by before race job run stretches =
    or_else (race_verdict race)
    (or_else (first_some (λ stop. alarm_by stop.0 stop.1) (stops_of job run))
    (or_else (first_some (λ stop. stuck_by stop.0 stop.1) (stops_of job run))
    (or_else (budget_verdict before job stretches)
    (or_else (meeting_verdict before job run stretches) verdicts.Yes))))
