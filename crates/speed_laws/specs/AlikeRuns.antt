-- Law. Two runs of a job with one result have the same times of zones.
use Rattle.std.specs.Prelude.{◌≡◌, ℕ, All, List, [], ◌∷◌, slice_get, slice_index_or, Some}
use Rattle.channel_machine.specs.StartStates.{start_of}
use Rattle.job_types.specs.Job.{JobView}
use Rattle.job_types.specs.SoundJob.{IsSoundJob}
use Rattle.order_clocks.specs.Clocked.{IsOrderOf, moves_in}
use Rattle.schedule_laws.specs.Schedules.{IsMaximalOf, IsQuietRun}
use Rattle.speed_laws.specs.Doings.{Doings}
use Rattle.speed_laws.specs.Histories.{IsRunBy}
use Rattle.sync_types.specs.Boards.{first_board}
use Rattle.sync_types.specs.Views.{RunView}
use Rattle.zone_stretches.specs.Overlaps.{Order, may_overlap}
use Rattle.zone_stretches.specs.Pieces.{motion_at}
use Rattle.zone_stretches.specs.Stretches.{StretchView, all_stretches}

-- two stretches have one name and the same boxes, and these the same motions
pub record AreAlike (run other : RunView) (left right : StretchView) : Type 0 where
  pub name : left.name ≡ right.name
  pub boxes : left.boxes ≡ right.boxes
  pub motions : All (λ box. motion_at run left.entry box.motion ≡ motion_at other right.entry box.motion) left.boxes

-- one by one
abbrev pub AllAlike : RunView → RunView → List StretchView → List StretchView → Type 0
AllAlike run other [] [] = Unit {0}
AllAlike run other (left ∷ lefts) (right ∷ rights) = AreAlike run other left right × AllAlike run other lefts rights
AllAlike run other lefts rights = ⊥

-- zone by zone
abbrev pub AllZonesAlike : RunView → RunView → List (List StretchView) → List (List StretchView) → Type 0
AllZonesAlike run other [] [] = Unit {0}
AllZonesAlike run other (left ∷ lefts) (right ∷ rights) = AllAlike run other left right × AllZonesAlike run other lefts rights
AllZonesAlike run other lefts rights = ⊥

-- the stretches of each zone in a run of the job
abbrev pub zones_in_run : JobView → RunView → List (List StretchView)
zones_in_run job run = (all_stretches job (first_board (start_of job)) run).zones

-- the stretches of each zone are alike, and two of them may overlap in the one run where they may in the other
pub record HaveAlikeZoneTimes (job : JobView) (before after : Order) (run other : RunView) : Type 0 where
  pub zones : AllZonesAlike run other (zones_in_run job run) (zones_in_run job other)
  pub overlaps : (z k y j : ℕ) (left right same_left same_right : StretchView)
      → slice_get (slice_index_or (zones_in_run job run) z []) k ≡ Some left → slice_get (slice_index_or (zones_in_run job run) y []) j ≡ Some right
      → slice_get (slice_index_or (zones_in_run job other) z []) k ≡ Some same_left → slice_get (slice_index_or (zones_in_run job other) y []) j ≡ Some same_right
      → may_overlap before left right ≡ may_overlap after same_left same_right

-- a run without a race, and any other maximal run
abbrev pub QuietRunsHaveAlikeZoneTimes : JobView → Doings → List ℕ → List ℕ → RunView → RunView → Order → Order → Type 0
QuietRunsHaveAlikeZoneTimes job doings quiet maximal run other before after = IsSoundJob job → IsQuietRun doings.script (start_of job) quiet → IsMaximalOf doings.script (start_of job) maximal
    → IsRunBy job doings quiet run → IsRunBy job doings maximal other
    → IsOrderOf (first_board (start_of job)) (moves_in run.entries) before → IsOrderOf (first_board (start_of job)) (moves_in other.entries) after → HaveAlikeZoneTimes job before after run other
