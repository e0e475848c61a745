-- One step more of a run, and one grant more of a channel.
use Rattle.std.proofs.Common.{◌≡◌, ℕ, List, [], ◌∷◌, ◌++◌, true, fold, map, Some, None, refl, ap}
use Rattle.sync_types.specs.Boards.{Board, is_running}
use Rattle.sync_types.specs.Runs.{Script, Stage, IsRun, IsSequential, after_turn, lowest_running, moves_of, next_move, stage_after}
use Rattle.sync_types.specs.Turns.{Move, after_entries, after_moves, after_step, entries_of, entry_of}
use Rattle.sync_types.specs.Views.{EntryView}
use Rattle.channel_machine.specs.Run.{SurroundingsView, Channel}
use Rattle.job_types.specs.Job.{JobView}
use Rattle.sync_types.specs.declared.Grant.{Grant}
use Rattle.channel_machine.specs.Scripts.{channel_after_segment, script_of, segment_after, items_of}

pub stage-push : (script : Script) (stage : Stage) (cs : List ℕ) (c : ℕ) → stage_after script stage (cs ++ c ∷ []) ≡ after_turn script (stage_after script stage cs) c
stage-push script stage [] c = refl
stage-push script stage (d ∷ cs) c = stage-push script (after_turn script stage d) cs c

pub moves-push : (script : Script) (stage : Stage) (cs : List ℕ) (c : ℕ)
    → moves_of script stage (cs ++ c ∷ []) ≡ moves_of script stage cs ++ next_move script (stage_after script stage cs) c ∷ []
moves-push script stage [] c = refl
moves-push script stage (d ∷ cs) c = ap (λ ms. next_move script stage d ∷ ms) (moves-push script (after_turn script stage d) cs c)

pub entries-push : (b : Board) (ms : List Move) (m : Move) → entries_of b (ms ++ m ∷ []) ≡ entries_of b ms ++ entry_of (after_moves b ms) m.channel m.step ∷ []
entries-push b [] m = refl
entries-push b (n ∷ ms) m = ap (λ es. entry_of b n.channel n.step ∷ es) (entries-push (after_step b n.channel n.step) ms m)

pub items-push : (job : JobView) (stage : Stage) (cs : List ℕ) (c : ℕ)
    → items_of job stage (cs ++ c ∷ []) ≡ items_of job stage cs ++ (segment_after job c ((stage_after (script_of job) stage cs).grants c)).items ∷ []
items-push job stage [] c = refl
items-push job stage (d ∷ cs) c = ap (λ xs. (segment_after job d (stage.grants d)).items ∷ xs) (items-push job (after_turn (script_of job) stage d) cs c)

pub channels-push : (es : List EntryView) (e : EntryView) → map (λ (e : EntryView). e.channel) (es ++ e ∷ []) ≡ map (λ (e : EntryView). e.channel) es ++ e.channel ∷ []
channels-push [] e = refl
channels-push (x ∷ es) e = ap (λ cs. x.channel ∷ cs) (channels-push es e)

pub run-push : (script : Script) (stage : Stage) (cs : List ℕ) (c : ℕ) → IsRun script stage cs → is_running ((stage_after script stage cs).board.state c) ≡ true → IsRun script stage (cs ++ c ∷ [])
run-push script stage [] c run runs = (runs, tt)
run-push script stage (d ∷ cs) c run runs = (run.0, run-push script (after_turn script stage d) cs c run.1 runs)

-- the replay of the entries of steps leaves the board of the steps, and that is the board of the run
pub after_its_entries : (b : Board) (ms : List Move) → after_entries b (entries_of b ms) ≡ after_moves b ms
after_its_entries b [] = refl
after_its_entries b (m ∷ ms) = after_its_entries (after_step b m.channel m.step) ms

pub after_its_moves : (script : Script) (stage : Stage) (cs : List ℕ) → after_moves stage.board (moves_of script stage cs) ≡ (stage_after script stage cs).board
after_its_moves script stage [] = refl
after_its_moves script stage (c ∷ cs) = after_its_moves script (after_turn script stage c) cs

-- each time the lowest running channel, so far
abbrev pub IsInOrder : Script → Stage → List ℕ → Type 0
IsInOrder script stage [] = Unit {0}
IsInOrder script stage (c ∷ cs) = (lowest_running stage.board ≡ Some c) × IsInOrder script (after_turn script stage c) cs

pub order-push : (script : Script) (stage : Stage) (cs : List ℕ) (c : ℕ) → IsInOrder script stage cs → lowest_running (stage_after script stage cs).board ≡ Some c
    → IsInOrder script stage (cs ++ c ∷ [])
order-push script stage [] c run lowest = (lowest, tt)
order-push script stage (d ∷ cs) c run lowest = (run.0, order-push script (after_turn script stage d) cs c run.1 lowest)

pub order_over : (script : Script) (stage : Stage) (cs : List ℕ) → IsInOrder script stage cs → lowest_running (stage_after script stage cs).board ≡ None → IsSequential script stage cs
order_over script stage [] run none = none
order_over script stage (c ∷ cs) run none = (run.0, order_over script (after_turn script stage c) cs run.1 none)

-- the channel that goes on with one grant more
pub grants-push : (s : SurroundingsView) (c : Channel) (grants : List Grant) (grant : Grant)
    → fold (channel_after_segment s) c (grants ++ grant ∷ []) ≡ channel_after_segment s (fold (channel_after_segment s) c grants) grant
grants-push s c [] grant = refl
grants-push s c (g ∷ grants) grant = grants-push s (channel_after_segment s c g) grants grant
