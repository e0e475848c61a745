-- Meaning. The verdict on a run of a job, that on the job, which is the one on its run in order, and what YES and NO
-- say of the job.
use Rattle.std.specs.Prelude.{◌≡◌, ℕ, ◌<◌, ◌≤◌, All, length, find, Option, None, Some}
use Rattle.channel_machine.specs.StartStates.{start_of}
use Rattle.clash_check.specs.Counts.{count_of}
use Rattle.clash_check.specs.Verdicts.{name_of, stops_of, verdict_by}
use Rattle.job_types.specs.Job.{JobView}
use Rattle.order_clocks.specs.Clocked.{IsOrderOf, moves_in}
use Rattle.order_clocks.specs.Races.{IsFirst, IsRace}
use Rattle.channel_machine.specs.Scripts.{IsMaximalRunOf, IsRunInOrder}
use Rattle.zone_stretches.specs.Overlaps.{Order, Pair, compared_pairs}
use Rattle.zone_stretches.specs.Pieces.{pair_meets}
use Rattle.zone_stretches.specs.Stretches.{StretchesView, all_stretches}
use Rattle.sync_types.specs.Boards.{Board, first_board}
use Rattle.sync_types.specs.Views.{RunView}
use Rattle.sync_types.specs.declared.ChannelEnd.{ChannelEnd}
use Rattle.sync_types.specs.declared.ChannelEnd.TheVariants.{Idle, Ended}
use Rattle.sync_types.specs.declared.runs.Race.{Race}
use Rattle.sync_types.specs.declared.verdicts.PlaceName.{PlaceName}
use Rattle.sync_types.specs.declared.verdicts.Verdict.{Verdict}

-- the board as the job begins
abbrev pub board_of : JobView → Board
board_of job = first_board (start_of job)

-- the time of each zone of the job in a run of it
abbrev pub zone_time_in : JobView → RunView → StretchesView
zone_time_in job run = all_stretches job (board_of job) run

-- the test tells which event of the run is before which
abbrev pub IsOrderIn : JobView → RunView → Order → Type 0
IsOrderIn job run before = IsOrderOf (board_of job) (moves_in run.entries) before

-- the first race of the run, or none where it has none
abbrev pub IsFirstRaceIn : JobView → RunView → Option Race → Type 0
IsFirstRaceIn job run race = IsFirst (board_of job) (moves_in run.entries) (length run.entries) race

-- the verdict is that on the run: by the order of its events, its first race and the times of its zones
pub record IsVerdictOn (job : JobView) (run : RunView) (verdict : Verdict) : Type 0 where
  pub before : Order
  pub ordered : IsOrderIn job run before
  pub race : Option Race
  pub first : IsFirstRaceIn job run race
  pub verdict_is : verdict ≡ verdict_by before race job run (zone_time_in job run)

-- the run of the job in order, and the verdict on it
pub record IsJudgedInOrder (job : JobView) (run : RunView) (verdict : Verdict) : Type 0 where
  pub in_order : IsRunInOrder job (start_of job) run
  pub on : IsVerdictOn job run verdict

-- a run of the job after which no channel runs, however they took turns, and the verdict on it
pub record IsJudgedInAnyOrder (job : JobView) (run : RunView) (verdict : Verdict) : Type 0 where
  pub maximal : IsMaximalRunOf job (start_of job) run
  pub on : IsVerdictOn job run verdict

-- no alarm has stopped the channel, and it does not wait
abbrev pub HasFinished : ChannelEnd → Type 0
HasFinished Idle = Unit {0}
HasFinished (Ended line) = Unit {0}
HasFinished end = ⊥

-- What YES says of a job. Its run in order has no race. In that run each channel has ended its program, or has never
-- started. No more pairs of boxes are compared than the job allows, and none of them meets.
pub record IsClear (job : JobView) : Type 0 where
  pub run : RunView
  pub in_order : IsRunInOrder job (start_of job) run
  pub no_race : (i : ℕ) (race : Race) → i < length run.entries → IsRace (board_of job) (moves_in run.entries) i race → ⊥
  pub finished : All (λ stop. HasFinished stop.1) (stops_of job run)
  pub before : Order
  pub ordered : IsOrderIn job run before
  pub few : count_of before job (zone_time_in job run) ≤ job.budget
  pub apart : find (pair_meets job run) (compared_pairs before job (zone_time_in job run)) ≡ None

-- What NO says of a job, with the names of two boxes. As at YES its run in order has no race, in that run each channel
-- has ended its program or has never started, and no more pairs of boxes are compared than the job allows. But of the
-- pairs that are compared one meets, and the first that does is that of the two boxes.
pub record HasFirstMeeting (job : JobView) (first second : PlaceName) : Type 0 where
  pub run : RunView
  pub in_order : IsRunInOrder job (start_of job) run
  pub no_race : (i : ℕ) (race : Race) → i < length run.entries → IsRace (board_of job) (moves_in run.entries) i race → ⊥
  pub finished : All (λ stop. HasFinished stop.1) (stops_of job run)
  pub before : Order
  pub ordered : IsOrderIn job run before
  pub few : count_of before job (zone_time_in job run) ≤ job.budget
  pub pair : Pair
  pub meets_first : find (pair_meets job run) (compared_pairs before job (zone_time_in job run)) ≡ Some pair
  pub first_is : first ≡ name_of pair.0
  pub second_is : second ≡ name_of pair.1
