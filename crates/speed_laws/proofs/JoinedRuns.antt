-- A run that goes on.
use Rattle.std.proofs.Common.{◌≡◌, ℕ, true, List, [], ◌∷◌, ◌++◌, refl, ap}
use Rattle.sync_types.specs.Boards.{is_running}
use Rattle.sync_types.specs.Runs.{Script, Stage, IsRun, after_turn, moves_of, next_move, stage_after}
use Rattle.sync_types.specs.Turns.{Move}

pub stage_joined : (script : Script) (stage : Stage) (xs ys : List ℕ) → stage_after script stage (xs ++ ys) ≡ stage_after script (stage_after script stage xs) ys
stage_joined script stage [] ys = refl
stage_joined script stage (x ∷ xs) ys = stage_joined script (after_turn script stage x) xs ys

pub moves_joined : (script : Script) (stage : Stage) (xs ys : List ℕ) → moves_of script stage (xs ++ ys) ≡ moves_of script stage xs ++ moves_of script (stage_after script stage xs) ys
moves_joined script stage [] ys = refl
moves_joined script stage (x ∷ xs) ys = ap (λ (ms : List Move). next_move script stage x ∷ ms) (moves_joined script (after_turn script stage x) xs ys)

pub run_first : (script : Script) (stage : Stage) (xs ys : List ℕ) → IsRun script stage (xs ++ ys) → IsRun script stage xs
run_first script stage [] ys run = tt
run_first script stage (x ∷ xs) ys run = (run.0, run_first script (after_turn script stage x) xs ys run.1)

pub run_rest : (script : Script) (stage : Stage) (xs ys : List ℕ) → IsRun script stage (xs ++ ys) → IsRun script (stage_after script stage xs) ys
run_rest script stage [] ys run = run
run_rest script stage (x ∷ xs) ys run = run_rest script (after_turn script stage x) xs ys run.1

pub run_more : (script : Script) (stage : Stage) (xs : List ℕ) (c : ℕ) → IsRun script stage xs → is_running ((stage_after script stage xs).board.state c) ≡ true → IsRun script stage (xs ++ c ∷ [])
run_more script stage [] c run on = (on, tt)
run_more script stage (x ∷ xs) c run on = (run.0, run_more script (after_turn script stage x) xs c run.1 on)
