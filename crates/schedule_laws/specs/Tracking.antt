-- Law. The machine of the laws of the board tracks every run.
use Rattle.std.specs.Prelude.{◌≡◌, ◌↔◌, ℕ, suc, ◌≤◌, ◌<◌, List, [], ◌∷◌, length, Some}
use Rattle.board_laws.specs.Clean.{IsClean, Rests}
use Rattle.board_laws.specs.Machine.{State, board_of, turn_by}
use Rattle.order_clocks.specs.Before.{Before}
use Rattle.order_clocks.specs.Happenings.{board_at}
use Rattle.schedule_laws.specs.EventPlaces.{event_in, events_upto}
use Rattle.schedule_laws.specs.Swaps.{HasNoRaceAt}
use Rattle.schedule_laws.specs.Tracked.{move_at, tracked}
use Rattle.sync_types.specs.Boards.{Board, first_board}
use Rattle.sync_types.specs.Events.{AreOne}
use Rattle.sync_types.specs.Starts.{IsSound}
use Rattle.sync_types.specs.Turns.{Move, AreOfRunning}
use Rattle.sync_types.specs.Views.{StartView}
use Rattle.sync_types.specs.declared.runs.EventId.{EventId}

-- Before a step of a run the board of the machine is that of the run, and its clocks and places never exceed its counts. The step
-- of the run has no race exactly where that of the machine is clean, and there the run goes on as the machine does.
pub record IsTracked (b : Board) (moves : List Move) (i : ℕ) (m : Move) : Type 0 where
  pub board : board_of (tracked b moves i) ≡ board_at b moves i
  pub rests : Rests (tracked b moves i)
  pub clean : HasNoRaceAt b moves i ↔ IsClean (tracked b moves i) m.channel m.step
  pub next : HasNoRaceAt b moves i → tracked b moves (suc i) ≡ turn_by (tracked b moves i) m.channel m.step

-- in each run from a sound start, whatever was before the step
abbrev pub RunsAreTracked : StartView → List Move → ℕ → Move → Type 0
RunsAreTracked start moves i m = IsSound start → AreOfRunning (first_board start) moves → i < length moves → move_at moves i ≡ Some m → IsTracked (first_board start) moves i m

-- After so many steps of a run the machine has its board, counts the events of each channel, and keeps the clock of each, also of the
-- last. Of two events the one is before the other exactly where the clock of the other counts it and the two are not one.
pub record HasTheFields (b : Board) (moves : List Move) (i : ℕ) : Type 0 where
  pub board : board_of (tracked b moves i) ≡ board_at b moves i
  pub count : (c : ℕ) → ((tracked b moves i).own c).count ≡ length (events_upto b moves c i)
  pub past : (c x : ℕ) → ((tracked b moves i).own c).past x ≡ ((tracked b moves i).own c).log ((tracked b moves i).own c).count x
  pub order : (c n d k : ℕ) (e f : EventId) → event_in (events_upto b moves c i) n ≡ Some e → event_in (events_upto b moves d i) k ≡ Some f
      → Before b moves e f ↔ ((suc n ≤ ((tracked b moves i).own d).log (suc k) c) × (AreOne b moves e f → ⊥))

-- in each run from a sound start, with races or without
abbrev pub FieldsAreOfTheRun : StartView → List Move → ℕ → Type 0
FieldsAreOfTheRun start moves i = IsSound start → AreOfRunning (first_board start) moves → i ≤ length moves → HasTheFields (first_board start) moves i

-- the machine after these steps
abbrev pub machine_after : State → List Move → State
machine_after t [] = t
machine_after t (m ∷ ms) = machine_after (turn_by t m.channel m.step) ms

-- each of them is clean
abbrev pub AreCleanSteps : State → List Move → Type 0
AreCleanSteps t [] = Unit {0}
AreCleanSteps t (m ∷ ms) = IsClean t m.channel m.step × AreCleanSteps (turn_by t m.channel m.step) ms

-- no race belongs to a step of a run
abbrev pub IsQuiet : Board → List Move → Type 0
IsQuiet b moves = (i : ℕ) → i < length moves → HasNoRaceAt b moves i

-- a run has no race exactly where each step of the machine is clean that makes the same steps, and then the machine ends as the run does
pub record IsRunOfTheMachine (b : Board) (moves : List Move) : Type 0 where
  pub quiet : IsQuiet b moves ↔ AreCleanSteps (tracked b [] 0) moves
  pub ends : IsQuiet b moves → machine_after (tracked b [] 0) moves ≡ tracked b moves (length moves)

-- from a sound start
abbrev pub QuietRunsAreClean : StartView → List Move → Type 0
QuietRunsAreClean start moves = IsSound start → AreOfRunning (first_board start) moves → IsRunOfTheMachine (first_board start) moves
