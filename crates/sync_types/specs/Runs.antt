-- Meaning. Runs: channels make their steps one after another, each by the grants that it has got.
use Rattle.std.specs.Prelude.{◌≡◌, ℕ, ◌==◌, ◌||◌, not, Bool, true, List, [], ◌∷◌, ◌++◌, filter, Option, Some, None, if◌then◌else◌}
use Rattle.std.specs.List.{list_any}
use Rattle.sync_types.specs.BoardEnds.{ends_of}
use Rattle.sync_types.specs.Boards.{Board, channel_numbers, is_running, grant_in, first_board}
use Rattle.sync_types.specs.GoingOn.{first_of}
use Rattle.sync_types.specs.Starts.{IsSound}
use Rattle.sync_types.specs.Turns.{Move, after_step, after_entries, AreEntries}
use Rattle.sync_types.specs.Views.{StartView, RunView}
use Rattle.sync_types.specs.declared.Grant.{Grant}
use Rattle.sync_types.specs.declared.Step.{Step}

-- what each channel does next, after the grants that it has got, the first first
abbrev pub Script : Type 0
Script = ℕ → List Grant → Step

-- how far a run is: the board, and the grants that each channel has got
pub record Stage : Type 0 where
  pub board : Board
  pub grants : ℕ → List Grant

abbrev pub as_list : Option Grant → List Grant
as_list (Some grant) = grant ∷ []
as_list None = []

-- before the first step each running channel has got one
abbrev pub first_stage : StartView → Stage
first_stage start = record {
  board = first_board start;
  grants = λ c. as_list (grant_in ((first_board start).state c));
}

abbrev pub next_move : Script → Stage → ℕ → Move
next_move script stage c = record { channel = c; step = script c (stage.grants c) }

-- who acts, or did not run before, gets a grant where it runs after the step
abbrev pub gets_a_grant : Board → ℕ → ℕ → Bool
gets_a_grant b c d = (d == c) || not (is_running (b.state d))

abbrev pub after_move : Stage → Move → Stage
after_move stage m = record {
  board = after_step stage.board m.channel m.step;
  grants = λ d. if gets_a_grant stage.board m.channel d
      then stage.grants d ++ as_list (grant_in ((after_step stage.board m.channel m.step).state d))
      else stage.grants d;
}

-- after the next step of a channel
abbrev pub after_turn : Script → Stage → ℕ → Stage
after_turn script stage c = after_move stage (next_move script stage c)

-- the steps of these channels, one after another, and how far the run is after them
abbrev pub moves_of : Script → Stage → List ℕ → List Move
moves_of script stage [] = []
moves_of script stage (c ∷ cs) = next_move script stage c ∷ moves_of script (after_turn script stage c) cs

abbrev pub stage_after : Script → Stage → List ℕ → Stage
stage_after script stage [] = stage
stage_after script stage (c ∷ cs) = stage_after script (after_turn script stage c) cs

-- each channel runs at its turn
abbrev pub IsRun : Script → Stage → List ℕ → Type 0
IsRun script stage [] = Unit {0}
IsRun script stage (c ∷ cs) = (is_running (stage.board.state c) ≡ true) × IsRun script (after_turn script stage c) cs

-- no channel runs
abbrev pub is_over : Board → Bool
is_over b = not (list_any (λ c. is_running (b.state c)) channel_numbers)

-- a run after which no channel runs
pub record IsMaximal (script : Script) (stage : Stage) (cs : List ℕ) : Type 0 where
  pub run : IsRun script stage cs
  pub over : is_over (stage_after script stage cs).board ≡ true

abbrev pub lowest_running : Board → Option ℕ
lowest_running b = first_of (filter (λ c. is_running (b.state c)) channel_numbers)

-- each time the lowest running channel, until none runs
abbrev pub IsSequential : Script → Stage → List ℕ → Type 0
IsSequential script stage [] = lowest_running stage.board ≡ None
IsSequential script stage (c ∷ cs) = (lowest_running stage.board ≡ Some c) × IsSequential script (after_turn script stage c) cs

-- entries and ends are those of a whole run from this start
pub record ComesFrom (start : StartView) (run : RunView) : Type 0 where
  pub sound : IsSound start
  pub entries : AreEntries (first_board start) run.entries
  pub over : is_over (after_entries (first_board start) run.entries) ≡ true
  pub ends : run.ends ≡ ends_of (after_entries (first_board start) run.entries)
