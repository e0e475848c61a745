-- Law. What is so of clean steps and runs of the machine.
use Rattle.std.specs.Prelude.{◌≡◌, ℕ, ◌+◌, ◌==◌, true, false, List, length}
use Rattle.sync_types.specs.Boards.{Board, first_board}
use Rattle.sync_types.specs.Runs.{Script}
use Rattle.sync_types.specs.Starts.{IsSound}
use Rattle.sync_types.specs.Turns.{after_step}
use Rattle.sync_types.specs.Views.{StartView}
use Rattle.sync_types.specs.declared.Step.{Step}
use Rattle.board_laws.specs.Clean.{IsClean, Clean, Rests}
use Rattle.board_laws.specs.Machine.{State, board_of, turn_by, turn, runs_at}
use Rattle.board_laws.specs.Sequences.{IsRun, AreClean, IsWhole, end_of}
use Rattle.board_laws.specs.Zones.{Zones}

-- q's step and then p's are clean too, and lead to the same state
pub record Swapped (b : State) (p q : ℕ) (p_step q_step : Step) : Type 0 where
  pub first : IsClean b q q_step
  pub second : IsClean (turn_by b q q_step) p p_step
  pub state : turn_by (turn_by b p p_step) q q_step ≡ turn_by (turn_by b q q_step) p p_step

-- two channels run, and p's step and then q's are clean
abbrev pub StepsSwap : State → ℕ → ℕ → Step → Step → Type 0
StepsSwap b p q p_step q_step = Rests b → (p == q) ≡ false → runs_at b p ≡ true → runs_at b q ≡ true → IsClean b p p_step → IsClean (turn_by b p p_step) q q_step
    → Swapped b p q p_step q_step

-- the run is clean, and goes on to this state by a clean run, to this length
pub record GoesOnTo (script : Script) (x : State) (vs : List ℕ) (count : ℕ) (z : State) : Type 0 where
  pub clean : AreClean (turn script) (Clean script) x vs
  pub rest : List ℕ
  pub steps : count ≡ length vs + length rest
  pub whole : IsWhole (turn script) runs_at (Clean script) (end_of (turn script) x vs) rest z

-- one clean run after which nobody runs tells this of every run from the same state
abbrev pub SpeaksForAll : Script → State → List ℕ → State → List ℕ → Type 0
SpeaksForAll script x ps z vs = Rests x → IsWhole (turn script) runs_at (Clean script) x ps z → IsRun (turn script) runs_at x vs → GoesOnTo script x vs (length ps) z

-- a clean step of the machine is the step of its board: who goes on one after another by three rules goes on at once
abbrev pub GoesAtOnce : State → ℕ → Step → Type 0
GoesAtOnce b p step = Rests b → Zones (board_of b) → runs_at b p ≡ true → IsClean b p step → after_step (board_of b) p step ≡ board_of (turn_by b p step)

-- zones go with their axes at a sound start, and after each step
pub record ZonesGoWithAxes (start : StartView) (b : Board) (c : ℕ) (step : Step) : Type 0 where
  pub first : IsSound start → Zones (first_board start)
  pub later : Zones b → Zones (after_step b c step)
