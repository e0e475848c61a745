-- Meaning. What a turn at a board that may be closed does to its history.
use Rattle.std.specs.Prelude.{◌≡◌, ℕ, true, false, [], ◌∷◌, ◌++◌, Option, Some}
use Rattle.coord_core.specs.Histories.{History, board_of, runs, answer_of}
use Rattle.coord_core.specs.declared.outcome.Outcome.{Outcome}
use Rattle.coord_core.specs.declared.outcome.Outcome.TheVariants.{Closed, NoMemory}
use Rattle.sync_types.specs.Runs.{Script, Stage, IsRun, after_turn}
use Rattle.sync_types.specs.Turns.{entry_of}
use Rattle.sync_types.specs.Views.{StartView}
use Rattle.sync_types.specs.declared.Step.{Step}

-- with the entry of one more step
abbrev pub with_entry : StartView → ℕ → Step → History → History
with_entry start c step history = record { entries = history.entries ++ entry_of (board_of start history) c step ∷ []; closed = history.closed }

-- with the same entries, and closed
abbrev pub closed_after : History → History
closed_after history = record { entries = history.entries; closed = true }

-- A channel brings a step: the history before, the answer, and the history after. At a closed board nothing changes. A channel that does not
-- run changes nothing either, and is told what a look tells. Else the entry of the step is added, and the channel is told what a look then
-- tells; or no memory is found for it, and the board is closed.
pub data Brings (start : StartView) (c : ℕ) (step : Step) (before : History) (answer : Option Outcome) (after : History) : Type 0 where
  ToClosed : before.closed ≡ true → after ≡ before → answer ≡ Some Closed → Brings start c step before answer after
  ToLook : runs start before c ≡ false → after ≡ before → answer ≡ answer_of start after c → Brings start c step before answer after
  ToAct : before.closed ≡ false → runs start before c ≡ true → after ≡ with_entry start c step before → answer ≡ answer_of start after c
      → Brings start c step before answer after
  ToNoMemory : before.closed ≡ false → runs start before c ≡ true → after ≡ closed_after before → answer ≡ Some NoMemory
      → Brings start c step before answer after

-- A run stands where the history before does, and the script has this step for the channel. Then with the entry of the step the history
-- stands where the run does after one more turn of the channel.
abbrev pub IsTurnOfRun : StartView → ℕ → Step → History → History → Type 0
IsTurnOfRun start c step before after = (script : Script) (stage : Stage) → stage.board ≡ board_of start before → step ≡ script c (stage.grants c)
    → runs start before c ≡ true → after ≡ with_entry start c step before
    → IsRun script stage (c ∷ []) × ((after_turn script stage c).board ≡ board_of start after)
