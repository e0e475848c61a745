-- Which of its grants each channel has used for segments.
use Rattle.std.proofs.Common.{◌≡◌, ℕ, ◌==◌, ◌||◌, Bool, true, false, cond, List, [], ◌∷◌, ◌++◌, Option, None, if◌then◌else◌, refl, sym, ap, ◌∙◌, append-nil}
use Rattle.std.specs.Prelude.{not}
use Rattle.sync_types.proofs.BoardTests.{no_truth}
use Rattle.sync_types.specs.Boards.{State, IsIdle, IsRunning, IsHolding, HasEnded, HasAlarmed, grant_in, is_running}
use Rattle.sync_types.specs.Runs.{Script, Stage, after_move, after_turn, as_list, first_stage, next_move, stage_after}
use Rattle.sync_types.specs.Turns.{Move, after_step}
use Rattle.sync_types.specs.Views.{StartView}
use Rattle.sync_types.specs.declared.Grant.{Grant}
use Rattle.coord_core.proofs.Staying.{stays, stays_in_step}

-- the grants that each channel has used
abbrev pub Usage : Type 0
Usage = ℕ → List Grant

-- a channel has got the grants that it has used, and where it runs one more
pub record Accords (stage : Stage) (usage : Usage) : Type 0 where
  pub grants : (d : ℕ) → stage.grants d ≡ usage d ++ as_list (grant_in (stage.board.state d))

abbrev pub no_usage : Usage
no_usage d = []

-- a channel uses its last grant for its segment
abbrev pub usage_after : Stage → Usage → ℕ → Usage
usage_after stage usage c d = if d == c then stage.grants d else usage d

runs_stays : (s : State) → is_running s ≡ true → stays s ≡ true
runs_stays (IsRunning grant) on = refl
runs_stays other on = no_truth false on refl

no_grant : (s : State) → is_running s ≡ false → grant_in s ≡ None
no_grant (IsRunning grant) off = no_truth true refl off
no_grant IsIdle off = refl
no_grant (IsHolding hold line) off = refl
no_grant (HasEnded line) off = refl
no_grant (HasAlarmed code line) off = refl

pub accords_first : (start : StartView) → Accords (first_stage start) no_usage
accords_first start = record { grants = λ d. refl }

-- by whether it acts, and whether it ran
got : (acts runs : Bool) (had used : List Grant) (old new : Option Grant) → had ≡ used ++ as_list old
    → (acts ≡ false → runs ≡ true → new ≡ old) → (runs ≡ false → old ≡ None)
    → cond (acts || not runs) (had ++ as_list new) had ≡ cond acts had used ++ as_list new
got true runs had used old new is same none = refl
got false true had used old new is same none = is ∙ ap (λ o. used ++ as_list o) (sym (same refl refl))
got false false had used old new is same none = ap (λ xs. xs ++ as_list new) (is ∙ ap (λ o. used ++ as_list o) (none refl) ∙ append-nil used)

pub accords_move : (stage : Stage) (usage : Usage) (m : Move) → Accords stage usage → Accords (after_move stage m) (usage_after stage usage m.channel)
accords_move stage usage m a = record {
  grants = λ d. got (d == m.channel) (is_running (stage.board.state d)) (stage.grants d) (usage d) (grant_in (stage.board.state d)) (grant_in ((after_step stage.board m.channel m.step).state d))
      (a.grants d)
      (λ other runs. ap grant_in (stays_in_step stage.board m.channel m.step d other (runs_stays (stage.board.state d) runs)))
      (no_grant (stage.board.state d));
}

pub accords_turn : (script : Script) (stage : Stage) (usage : Usage) (c : ℕ) → Accords stage usage → Accords (after_turn script stage c) (usage_after stage usage c)
accords_turn script stage usage c a = accords_move stage usage (next_move script stage c) a

-- after the steps of these channels
abbrev pub usage_from : Script → Stage → Usage → List ℕ → Usage
usage_from script stage usage [] = usage
usage_from script stage usage (c ∷ cs) = usage_from script (after_turn script stage c) (usage_after stage usage c) cs

pub accords_turns : (script : Script) (stage : Stage) (usage : Usage) (cs : List ℕ) → Accords stage usage → Accords (stage_after script stage cs) (usage_from script stage usage cs)
accords_turns script stage usage [] a = a
accords_turns script stage usage (c ∷ cs) a = accords_turns script (after_turn script stage c) (usage_after stage usage c) cs (accords_turn script stage usage c a)

pub usage-push : (script : Script) (stage : Stage) (usage : Usage) (cs : List ℕ) (c : ℕ)
    → usage_from script stage usage (cs ++ c ∷ []) ≡ usage_after (stage_after script stage cs) (usage_from script stage usage cs) c
usage-push script stage usage [] c = refl
usage-push script stage usage (d ∷ cs) c = usage-push script (after_turn script stage d) (usage_after stage usage d) cs c
