-- Law. What a run has made of the run that speaks for all runs: a cut of its events, and in which stretch each zone is then.
use Rattle.std.specs.Prelude.{◌≡◌, ℕ, ◌<◌, ◌≤◌, ◌==◌, nat_le, Bool, true, false, List, length, filter, slice_get, Contains, IfSome, Some}
use Rattle.std.specs.List.{list_all}
use Rattle.channel_machine.specs.StartStates.{start_of}
use Rattle.job_types.specs.Job.{JobView}
use Rattle.job_types.specs.SoundJob.{IsSoundJob}
use Rattle.job_types.specs.Zones.{zones_in_order}
use Rattle.job_types.specs.declared.job.ZoneLine.{ZoneLine}
use Rattle.order_clocks.specs.Before.{Before}
use Rattle.order_clocks.specs.Counters.{row}
use Rattle.order_clocks.specs.CourseOf.{course_of}
use Rattle.schedule_laws.specs.EventPlaces.{events_of}
use Rattle.schedule_laws.specs.Schedules.{IsQuietRun, IsRunOf, moves_by}
use Rattle.speed_laws.specs.Doings.{Doings}
use Rattle.speed_laws.specs.Histories.{items_by}
use Rattle.sync_types.specs.Boards.{among, channel_numbers, first_board}
use Rattle.sync_types.specs.Runs.{Script, first_stage, stage_after}
use Rattle.sync_types.specs.Views.{StartView}
use Rattle.sync_types.specs.declared.runs.EventId.{EventId}
use Rattle.zone_stretches.specs.Occurrences.{OccurrenceView, occurrences_of}
use Rattle.zone_stretches.specs.Stretches.{StretchView, stretches_of_zone}

-- how many events of a channel the run of these channels has
abbrev pub event_count : Script → StartView → List ℕ → ℕ → ℕ
event_count script start cs c = length (events_of (first_board start) (moves_by script start cs) c)

-- an event of the one run is made in the other where this has as many events of each channel as the event counts
abbrev pub is_made : Script → StartView → List ℕ → List ℕ → EventId → Bool
is_made script start speaking made e =
    list_all (λ x. nat_le (row (course_of (first_board start) (moves_by script start speaking)) e x) (event_count script start made x)) channel_numbers

-- What is made is a cut: with each event all that are before it are made. Of each channel it is as many of its first events as
-- the other run has.
pub record IsCutOf (script : Script) (start : StartView) (speaking made : List ℕ) : Type 0 where
  pub closed : (e f : EventId) → Before (first_board start) (moves_by script start speaking) e f → is_made script start speaking made f ≡ true → is_made script start speaking made e ≡ true
  pub first_ones : (c k : ℕ) (o : OccurrenceView) → slice_get (filter (λ p. p.channel == c) (occurrences_of (first_board start) (moves_by script start speaking))) k ≡ Some o
      → k < event_count script start made c → is_made script start speaking made o.name ≡ true
  pub no_others : (c k : ℕ) (o : OccurrenceView) → slice_get (filter (λ p. p.channel == c) (occurrences_of (first_board start) (moves_by script start speaking))) k ≡ Some o
      → among channel_numbers c ≡ true → event_count script start made c ≤ k → is_made script start speaking made o.name ≡ false

abbrev pub RunsAreCuts : Script → StartView → List ℕ → List ℕ → Type 0
RunsAreCuts script start speaking made = IsQuietRun script start speaking → IsRunOf script start made → IsCutOf script start speaking made

-- A stretch of the run that speaks is the present one: it has begun and is not over, and it is of the zone's present holder.
pub record IsPresentStretch (job : JobView) (doings : Doings) (speaking made : List ℕ) (zone : ZoneLine) (stretch : StretchView) : Type 0 where
  pub begun : IfSome stretch.first (λ e. is_made doings.script (start_of job) speaking made e ≡ true)
  pub not_over : IfSome stretch.last (λ e. is_made doings.script (start_of job) speaking made e ≡ false)
  pub holder : stretch.name.channel ≡ (stage_after doings.script (first_stage (start_of job)) made).board.holder zone.zone

-- the zone has one
pub record HasPresentStretch (job : JobView) (doings : Doings) (speaking made : List ℕ) (zone : ZoneLine) : Type 0 where
  pub stretch : StretchView
  pub there : Contains (stretches_of_zone job (items_by doings (first_stage (start_of job)) speaking) (occurrences_of (first_board (start_of job)) (moves_by doings.script (start_of job) speaking)) zone) stretch
  pub present : IsPresentStretch job doings speaking made zone stretch

-- after each run of an accepted job each zone has one in the run that speaks
abbrev pub ZonesHavePresentStretches : JobView → Doings → List ℕ → List ℕ → ZoneLine → Type 0
ZonesHavePresentStretches job doings speaking made zone = IsSoundJob job → IsQuietRun doings.script (start_of job) speaking → IsRunOf doings.script (start_of job) made
    → Contains (zones_in_order job) zone → HasPresentStretch job doings speaking made zone
