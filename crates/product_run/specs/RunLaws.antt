-- Law. What is so of all runs of a job.
use Rattle.std.specs.Prelude.{◌≡◌, ℕ, ℤ, pos, ◌+◌, ◌*◌, ◌<◌, ◌≤◌, true, Bool, All, List, [], ◌∷◌, ◌++◌, length, slice_get, sum_by, take, Option, Some, unwrap_or}
use Rattle.axis_sets.specs.Positions.{position_of, stands}
use Rattle.axis_sets.specs.Sets.{has}
use Rattle.axis_sets.specs.declared.limits.TheConstants.{AXIS_LIMIT, CHANNEL_LIMIT}
use Rattle.block_motions.specs.Motions.{IsMotionOf}
use Rattle.channel_machine.specs.Grants.{grant_fits}
use Rattle.channel_machine.specs.Kept.{StateView}
use Rattle.channel_machine.specs.Run.{stands_after, surroundings_of}
use Rattle.channel_machine.specs.StartStates.{start_of}
use Rattle.channel_machine.specs.declared.limits.TheConstants.{BLOCK_LIMIT}
use Rattle.job_types.specs.Job.{JobView}
use Rattle.job_types.specs.SoundJob.{IsSoundJob}
use Rattle.fault_codes.specs.Codes.{IsAlarmCode}
use Rattle.path_geometry.specs.Motions.{axes_of, IsSound as IsSoundMotion}
use Rattle.path_geometry.specs.declared.motion.Motion.{Motion}
use Rattle.channel_machine.specs.Locals.{IsKeptOf}
use Rattle.channel_machine.specs.Scripts.{IsMaximalRunOf, IsRunInOrder, channel_after_grants, script_of, segment_after}
use Rattle.sync_types.specs.Boards.{IsRunning, Board, is_running, owns}
use Rattle.sync_types.specs.Items.{left_at, motion_of, movement_of}
use Rattle.sync_types.specs.Runs.{ComesFrom, IsRun, Stage, first_stage, stage_after}
use Rattle.sync_types.specs.Starts.{IsSound, axes_of_zone}
use Rattle.sync_types.specs.Views.{StartView, RunView}
use Rattle.sync_types.specs.declared.ChannelEnd.{ChannelEnd}
use Rattle.sync_types.specs.declared.ChannelEnd.TheVariants.{Alarmed}
use Rattle.sync_types.specs.declared.Grant.{Grant}
use Rattle.sync_types.specs.declared.Item.{Item}
use Rattle.sync_types.specs.declared.Part.TheVariants.{Switch}

-- ---- how long runs are

-- how many steps all channels together make at most: each but the last of a channel executes a block
abbrev pub step_limit : ℕ
step_limit = CHANNEL_LIMIT * (BLOCK_LIMIT + 1)

-- each run of a job is short
abbrev pub IsShort : JobView → List ℕ → Type 0
IsShort job cs = IsRun (script_of job) (first_stage (start_of job)) cs → length cs ≤ step_limit

-- ---- where axes stand

-- where an axis stands for a channel that has got these grants, before its segment
unfoldable pub stands_before : JobView → ℕ → List Grant → ℕ → ℤ
stands_before job c [] axis = pos 0
stands_before job c (first ∷ grants) axis = stands_after (surroundings_of job c first) (channel_after_grants (surroundings_of job c first) grants).past axis

-- where it stands after the segment: its motions left it there
abbrev pub stands_at_end : JobView → ℕ → List Grant → ℕ → ℤ
stands_at_end job c grants axis = left_at (segment_after job c grants).items (stands_before job c grants) axis

-- each motion of a segment is one of axes that the last grant gives, from where they stand
abbrev pub MovesWhatItOwns : JobView → ℕ → List Grant → Grant → Type 0
MovesWhatItOwns job c made grant = (place : ℕ) (item : Item) (motion : Motion)
    → slice_get (segment_after job c (made ++ grant ∷ [])).items place ≡ Some item → motion_of item ≡ Some motion
    → IsMotionOf grant.axes (left_at (take place (segment_after job c (made ++ grant ∷ [])).items) (stands_before job c (made ++ grant ∷ []))) motion

-- an axis stands at first where the grant has it; and then where each further grant has it, or where the segment before it left it
pub record StandsByGrants (job : JobView) (c : ℕ) (made : List Grant) (grant next : Grant) (axis : ℕ) : Type 0 where
  pub first : stands_before job c (grant ∷ []) axis ≡ stands grant.at axis
  pub later : stands_before job c (made ++ grant ∷ next ∷ []) axis ≡ unwrap_or (position_of next.at axis) (stands_at_end job c (made ++ grant ∷ []) axis)

-- in each run a channel that runs has got last what it goes on with
abbrev pub HasGotLast : JobView → StartView → List ℕ → ℕ → Grant → Type 0
HasGotLast job start cs c grant = (stage_after (script_of job) (first_stage start) cs).board.state c ≡ IsRunning grant
    → (made : List Grant) × ((stage_after (script_of job) (first_stage start) cs).grants c ≡ made ++ grant ∷ [])

-- ---- axes and zones in any run

-- how far a run of a job is after the steps of these channels
abbrev pub run_stage : JobView → List ℕ → Stage
run_stage job cs = stage_after (script_of job) (first_stage (start_of job)) cs

-- in a run of an accepted job these channels make their steps, one after another
abbrev pub IsRunOf : JobView → List ℕ → Type 0
IsRunOf job cs = IsSoundJob job × IsRun (script_of job) (first_stage (start_of job)) cs

-- a channel that runs owns the axes of its grant, and no others
abbrev pub OwnsItsGrant : JobView → List ℕ → ℕ → Grant → Type 0
OwnsItsGrant job cs c grant = IsRunOf job cs → (run_stage job cs).board.state c ≡ IsRunning grant
    → (axis : ℕ) → axis < AXIS_LIMIT → has grant.axes axis ≡ owns (run_stage job cs).board c axis

-- the channel holds the zone, and owns each axis that carries it
pub record HoldsZone (b : Board) (c zone : ℕ) : Type 0 where
  pub holder : b.holder zone ≡ Some c
  pub axes : (axis : ℕ) → has (axes_of_zone b.start zone) axis ≡ true → owns b c axis ≡ true

-- each zone that the segment of a channel switches is one that the channel holds while it runs
abbrev pub SwitchesWhatItHolds : JobView → List ℕ → ℕ → Type 0
SwitchesWhatItHolds job cs c = IsRunOf job cs → is_running ((run_stage job cs).board.state c) ≡ true
    → (place : ℕ) (item : Item) (zone : ℕ) (on : Bool)
    → slice_get (segment_after job c ((run_stage job cs).grants c)).items place ≡ Some item → item.part ≡ Switch zone on
    → HoldsZone (run_stage job cs).board c zone

-- the grant fits whatever is kept of a channel after its segments with these grants, and where there are none a channel that starts
abbrev pub FitsAfter : JobView → ℕ → List Grant → Grant → Type 0
FitsAfter job c made grant = (kept : Option StateView) → IsKeptOf job c made kept → grant_fits job kept grant ≡ true

-- the last grant of a channel that runs fits what is kept of the channel
abbrev pub GrantsFit : JobView → List ℕ → ℕ → Grant → Type 0
GrantsFit job cs c grant = IsRunOf job cs → (run_stage job cs).board.state c ≡ IsRunning grant
    → (made : List Grant) → (run_stage job cs).grants c ≡ made ++ grant ∷ [] → FitsAfter job c made grant

-- ---- runs after which no channel runs

-- the run in order is one
abbrev pub RunsInOrderAreMaximal : JobView → StartView → RunView → Type 0
RunsInOrderAreMaximal job start run = IsRunInOrder job start run → IsMaximalRunOf job start run

-- it has few entries
abbrev pub HasFewEntries : JobView → RunView → Type 0
HasFewEntries job run = IsMaximalRunOf job (start_of job) run → length run.entries ≤ step_limit

-- a whole run from this start, with items for each entry
pub record IsWholeRun (start : StartView) (run : RunView) : Type 0 where
  pub comes : ComesFrom start run
  pub rows : length run.items ≡ length run.entries

-- from a sound start it is one
abbrev pub RunsAreWhole : JobView → StartView → RunView → Type 0
RunsAreWhole job start run = IsSound start → IsMaximalRunOf job start run → IsWholeRun start run

-- an item moves axes that there are, on a sound way
pub record MovesSoundly (item : Item) : Type 0 where
  pub sound : IsSoundMotion (movement_of item)
  pub within : All (λ e. e.0 < AXIS_LIMIT) (axes_of (movement_of item))

-- the alarm that has stopped a channel is in the table of alarms
abbrev pub IsListedEnd : ChannelEnd → Type 0
IsListedEnd (Alarmed alarm) = IsAlarmCode alarm.code
IsListedEnd end = Unit {0}

-- each motion is sound; what comes before a step is at most as much as a channel may execute blocks, and all that is done as much as all channels may; and each alarm is in the table
pub record IsSoundRun (run : RunView) : Type 0 where
  pub items : All (All MovesSoundly) run.items
  pub few : All (λ items. length items ≤ BLOCK_LIMIT) run.items
  pub total : sum_by length run.items ≤ CHANNEL_LIMIT * BLOCK_LIMIT
  pub ends : All IsListedEnd run.ends

-- so is each such run of an accepted job
abbrev pub RunsAreSound : JobView → RunView → Type 0
RunsAreSound job run = IsSoundJob job → IsMaximalRunOf job (start_of job) run → IsSoundRun run
