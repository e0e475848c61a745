-- Runs, entries and steps are replays of one another.
use Rattle.std.proofs.Common.{subst, ap₂, inl, inr, ◌≡◌, ℕ, ◌||◌, not, Bool, true, false, List, [], ◌∷◌, Some, None, map, filter, refl, sym, ap, ◌∙◌}
use Rattle.std.proofs.lemmas.Bool.{cases_Bool}
use Rattle.std.specs.List.{list_any}
use Rattle.sync_types.proofs.BoardTests.{no_truth, first_passes}
use Rattle.sync_types.specs.BoardEnds.{end_of, ends_among, ends_of, with_end}
use Rattle.sync_types.specs.Boards.{State, IsIdle, IsRunning, IsHolding, HasEnded, HasAlarmed, Board, channel_numbers, first_board, is_running}
use Rattle.sync_types.specs.GoingOn.{first_of}
use Rattle.sync_types.specs.RunLaws.{RunIsReplay, EntriesAreReplay, SequentialIsOne, AllHaveEnds, MaximalRunsComeFrom}
use Rattle.sync_types.specs.Runs.{Script, Stage, IsRun, IsMaximal, IsSequential, first_stage, moves_of, is_over, after_turn}
use Rattle.sync_types.specs.Starts.{has_channel}
use Rattle.sync_types.specs.Turns.{Move, after_step, AreOfRunning}
use Rattle.sync_types.specs.Views.{StartView}
use Rattle.sync_types.specs.declared.ChannelEnd.{ChannelEnd}
use Rattle.sync_types.specs.declared.Item.{Item}

pub run_is_replay : (script : Script) (stage : Stage) (cs : List ℕ) → IsRun script stage cs → RunIsReplay script stage cs
run_is_replay script stage [] run = record { running = tt; board = refl }
run_is_replay script stage (c ∷ cs) run =
    let rest = run_is_replay script (after_turn script stage c) cs run.1 in
    record { running = (run.0, rest.running); board = rest.board }

pub entries_are_replay : (b : Board) (moves : List Move) → AreOfRunning b moves → EntriesAreReplay b moves
entries_are_replay b [] running = record { lawful = tt; board = refl }
entries_are_replay b (m ∷ ms) running =
    let rest = entries_are_replay (after_step b m.channel m.step) ms running.1 in
    record { lawful = (running.0, refl, rest.lawful); board = rest.board }

pub maximal_runs_come_from : (script : Script) (start : StartView) (cs : List ℕ) (items : List (List Item)) → MaximalRunsComeFrom script start cs items
maximal_runs_come_from script start cs items sound maximal =
    let steps = run_is_replay script (first_stage start) cs maximal.run in
    let entries = entries_are_replay (first_board start) (moves_of script (first_stage start) cs) steps.running in
    let same = entries.board ∙ steps.board in
    record { sound = sound; entries = entries.lawful; over = ap is_over same ∙ maximal.over; ends = sym (ap ends_of same) }

-- the lowest of those that pass, or none where none passes
none_first : (p : ℕ → Bool) (xs : List ℕ) → first_of (filter p xs) ≡ None → list_any p xs ≡ false
none_first p [] none = refl
none_first p (x ∷ xs) none = elim (cases_Bool (p x)) [
  | inl on ↦ let bad : Some x ≡ None = rw on at none in absurd (let out : ⊥ = cc in out)
  | inr off ↦ rw off (none_first p xs (rw off at none))
]

same_first : (c d : ℕ) → Some c ≡ Some d → c ≡ d
same_first c d e = cc

some_none : {A : Type 0} (c : ℕ) → Some c ≡ None → A
some_none c bad = let out : ⊥ = cc in absurd out

sequential_run : (script : Script) (stage : Stage) (cs : List ℕ) → IsSequential script stage cs → IsMaximal script stage cs
sequential_run script stage [] none = record { run = tt; over = ap not (none_first (λ c. is_running (stage.board.state c)) channel_numbers none) }
sequential_run script stage (c ∷ cs) goes =
    let rest = sequential_run script (after_turn script stage c) cs goes.1 in
    record { run = (first_passes (λ d. is_running (stage.board.state d)) channel_numbers c goes.0, rest.run); over = rest.over }

only_one : (script : Script) (stage : Stage) (cs ds : List ℕ) → IsSequential script stage cs → IsSequential script stage ds → cs ≡ ds
only_one script stage [] [] one other = refl
only_one script stage [] (d ∷ ds) one other = some_none d (sym other.0 ∙ one)
only_one script stage (c ∷ cs) [] one other = some_none c (sym one.0 ∙ other)
only_one script stage (c ∷ cs) (d ∷ ds) one other =
    let same : c ≡ d = same_first c d (sym one.0 ∙ other.0) in
    ap₂ (λ x xs. x ∷ xs) same (only_one script (after_turn script stage c) cs ds one.1 (subst (λ (x : ℕ). IsSequential script (after_turn script stage x) ds) (sym same) other.1))

pub sequential_is_one : (script : Script) (stage : Stage) (cs ds : List ℕ) → IsSequential script stage cs → SequentialIsOne script stage cs ds
sequential_is_one script stage cs ds one = record { maximal = sequential_run script stage cs one; only = only_one script stage cs ds one }

with_its_end : (s : State) (ends : List ChannelEnd) → is_running s ≡ false → map Some (with_end (end_of s) ends) ≡ end_of s ∷ map Some ends
with_its_end IsIdle ends stopped = refl
with_its_end (IsRunning grant) ends stopped = no_truth true refl stopped
with_its_end (IsHolding hold line) ends stopped = refl
with_its_end (HasEnded line) ends stopped = refl
with_its_end (HasAlarmed code line) ends stopped = refl

or_parts : (a b : Bool) → (a || b) ≡ false → (a ≡ false) × (b ≡ false)
or_parts true b off = no_truth true refl off
or_parts false b off = (refl, off)

ends_there : (b : Board) (cs : List ℕ) → list_any (λ c. is_running (b.state c)) cs ≡ false → map Some (ends_among b cs) ≡ map (λ c. end_of (b.state c)) (filter (has_channel b.start) cs)
ends_there b [] stopped = refl
ends_there b (c ∷ cs) stopped =
    let parts = or_parts (is_running (b.state c)) (list_any (λ d. is_running (b.state d)) cs) stopped in
    elim (cases_Bool (has_channel b.start c)) [
      | inl on ↦ rw on (with_its_end (b.state c) (ends_among b cs) parts.0 ∙ ap (λ rest. end_of (b.state c) ∷ rest) (ends_there b cs parts.1))
      | inr off ↦ rw off (ends_there b cs parts.1)
    ]

off_of : (t : Bool) → not t ≡ true → t ≡ false
off_of true on = sym on
off_of false on = refl

pub all_have_ends : (b : Board) → AllHaveEnds b
all_have_ends b over = ends_there b channel_numbers (off_of _ over)
