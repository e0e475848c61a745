-- Meaning. What channels do by what they own, in every run.
use Rattle.std.specs.Prelude.{◌≡◌, ◌<◌, ℕ, true, List, [], All, Contains, Some, is_some, unwrap_or}
use Rattle.axis_sets.specs.Positions.{position_of}
use Rattle.axis_sets.specs.Sets.{has}
use Rattle.axis_sets.specs.declared.limits.TheConstants.{AXIS_LIMIT}
use Rattle.channel_machine.specs.StartStates.{start_of}
use Rattle.job_types.specs.Job.{JobView}
use Rattle.job_types.specs.declared.job.ZoneLine.{ZoneLine}
use Rattle.path_geometry.specs.Motions.{axes_of}
use Rattle.schedule_laws.specs.Schedules.{IsRunOf}
use Rattle.speed_laws.specs.Doings.{Doings, on_after, stands_before, stands_after}
use Rattle.speed_laws.specs.JoinedItems.{AllJoin}
use Rattle.sync_types.specs.Boards.{is_running, owner_of}
use Rattle.sync_types.specs.Items.{movement_of}
use Rattle.sync_types.specs.Runs.{Stage, first_stage, stage_after}
use Rattle.sync_types.specs.declared.Grant.{Grant}

-- how far the run of these channels is: the board, and the grants that each channel has got
abbrev pub stage_by : JobView → Doings → List ℕ → Stage
stage_by job doings cs = stage_after doings.script (first_stage (start_of job)) cs

-- a channel that runs has its axes, at its step, where its items left them
pub record TellsWhereAxesStand (job : JobView) (doings : Doings) (c : ℕ) (grants : List Grant) : Type 0 where
  pub tells : (axis : ℕ) → unwrap_or (position_of (doings.script c grants).at axis) (stands_before job doings c grants axis) ≡ stands_after job doings c grants axis

-- so it is in every run, and a channel that has got no grant does nothing
pub record TellWhereAxesStand (job : JobView) (doings : Doings) : Type 0 where
  pub idle : (c : ℕ) → doings.items c [] ≡ []
  pub in_runs : (cs : List ℕ) (c : ℕ) → IsRunOf doings.script (start_of job) cs → is_running ((stage_after doings.script (first_stage (start_of job)) cs).board.state c) ≡ true
      → TellsWhereAxesStand job doings c ((stage_after doings.script (first_stage (start_of job)) cs).grants c)

-- the items of a channel join, and move only axes that it owns
pub record MovesItsAxes (job : JobView) (doings : Doings) (stage : Stage) (c : ℕ) : Type 0 where
  pub joined : AllJoin (stands_before job doings c (stage.grants c)) (doings.items c (stage.grants c))
  pub owned : All (λ item. All (λ e. owner_of (stage.board.axis e.0) ≡ Some c) (axes_of (movement_of item))) (doings.items c (stage.grants c))

-- the step of a channel tells where each axis of its own stands
abbrev pub TellsWhereItsAxesStand : Doings → Stage → ℕ → Type 0
TellsWhereItsAxesStand doings stage c = (axis : ℕ) → axis < AXIS_LIMIT → owner_of (stage.board.axis axis) ≡ Some c
    → is_some (position_of (doings.script c (stage.grants c)).at axis) ≡ true

-- the step of a channel has those zones on that its items left on, of the zones that it holds
abbrev pub TellsWhichZonesAreOn : JobView → Doings → Stage → ℕ → ZoneLine → Type 0
TellsWhichZonesAreOn job doings stage c zone =
    stage.board.holder zone.zone ≡ Some c → has (doings.script c (stage.grants c)).on zone.zone ≡ on_after zone (stage.board.is_on zone.zone) (doings.items c (stage.grants c))

-- What the channels of a job do in every run while they run: they know where their axes stand, and move their own axes alone.
pub record AreSound (job : JobView) (doings : Doings) : Type 0 where
  pub tell : TellWhereAxesStand job doings
  pub move : (cs : List ℕ) (c : ℕ) → IsRunOf doings.script (start_of job) cs → is_running ((stage_by job doings cs).board.state c) ≡ true → MovesItsAxes job doings (stage_by job doings cs) c

-- And their steps tell the board where all their axes stand, and which of the zones that they hold are on.
pub record TellTheBoard (job : JobView) (doings : Doings) : Type 0 where
  pub places : (cs : List ℕ) (c : ℕ) → IsRunOf doings.script (start_of job) cs → is_running ((stage_by job doings cs).board.state c) ≡ true → TellsWhereItsAxesStand doings (stage_by job doings cs) c
  pub zones : (cs : List ℕ) (c : ℕ) (zone : ZoneLine) → IsRunOf doings.script (start_of job) cs → is_running ((stage_by job doings cs).board.state c) ≡ true
      → Contains job.zones zone → TellsWhichZonesAreOn job doings (stage_by job doings cs) c zone
