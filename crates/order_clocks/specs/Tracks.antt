-- Steps. Traces that events of a run leave and mind, and of each channel the last event that left a trace.
use Rattle.std.specs.Prelude.{◌≡◌, ℕ, zero, suc, ◌<◌, ◌==◌, ◌&&◌, Bool, true, false, List, if◌then◌else◌}
use Rattle.order_clocks.specs.Counters.{row}
use Rattle.order_clocks.specs.Courses.{Course, IsEventIn, IsBeforeIn}
use Rattle.order_clocks.specs.Races.{line_at}
use Rattle.order_clocks.specs.TracedRaces.{Trace, leaves_at, minds_at, shown}
use Rattle.order_clocks.specs.Steps.{act_name, go_name}
use Rattle.sync_types.specs.Boards.{Board, among}
use Rattle.sync_types.specs.Turns.{Move}
use Rattle.sync_types.specs.declared.runs.EventId.{EventId}
use Rattle.sync_types.specs.declared.runs.Race.{Race}

-- what events leave and mind, and their lines
pub record Tracks : Type 0 where
  pub leaves : EventId → Trace → Bool
  pub minds : EventId → Trace → Bool
  pub line : EventId → ℕ

abbrev pub tracks_of : Board → List Move → Tracks
tracks_of b moves = record { leaves = leaves_at b moves; minds = minds_at b moves; line = line_at b moves }

-- the earlier event left what the later one, of another channel and a later step, minds, and is not before it
pub record AreApartIn (run : Course) (tracks : Tracks) (early late : EventId) (trace : Trace) : Type 0 where
  pub first : IsEventIn run early
  pub second : IsEventIn run late
  pub step : early.step < late.step
  pub channels : (early.channel == late.channel) ≡ false
  pub left : tracks.leaves early trace ≡ true
  pub minded : tracks.minds late trace ≡ true
  pub unordered : IsBeforeIn run early late → ⊥

-- what the last event of a channel in the first steps that left the trace counts of its channel, 0 where there
-- is none
abbrev pub after_act : Course → Tracks → ℕ → Trace → ℕ → ℕ → ℕ
after_act run tracks c t i old = if (run.actor i == c) && tracks.leaves (act_name i c) t then row run (act_name i c) c else old

abbrev pub after_goings : Course → Tracks → ℕ → Trace → ℕ → ℕ → ℕ
after_goings run tracks c t i old = if among (run.goers i) c && tracks.leaves (go_name i c) t then row run (go_name i c) c else old

abbrev pub last_place : Course → Tracks → ℕ → Trace → ℕ → ℕ
last_place run tracks c t zero = 0
last_place run tracks c t (suc i) = after_goings run tracks c t i (after_act run tracks c t i (last_place run tracks c t i))

-- an event of the step is apart from one of an earlier step
pub record IsRacyAt (run : Course) (tracks : Tracks) (i : ℕ) : Type 0 where
  pub early : EventId
  pub late : EventId
  pub trace : Trace
  pub step : late.step ≡ i
  pub apart : AreApartIn run tracks early late trace

abbrev pub spot : Tracks → EventId → ℕ × ℕ
spot tracks e = (e.channel, tracks.line e)

-- a race of two events that are apart
pub record IsApartRace (run : Course) (tracks : Tracks) (early late : EventId) (race : Race) : Type 0 where
  pub trace : Trace
  pub apart : AreApartIn run tracks early late trace
  pub is : race ≡ shown trace (spot tracks early) (spot tracks late)

-- a race of a step with one of two given steps
pub record IsStepRace (run : Course) (tracks : Tracks) (j i : ℕ) (race : Race) : Type 0 where
  pub early : EventId
  pub late : EventId
  pub early_step : early.step ≡ j
  pub late_step : late.step ≡ i
  pub apart : IsApartRace run tracks early late race

-- a race of a step with one of the first steps
pub record IsEarlierRace (run : Course) (tracks : Tracks) (count i : ℕ) (race : Race) : Type 0 where
  pub step : ℕ
  pub within : step < count
  pub race_of : IsStepRace run tracks step i race
