-- What each channel does, by the grants that it has got.
use Rattle.std.proofs.Common.{◌≡◌, ℕ, ◌==◌, Bool, true, false, if◌then◌else◌, List, [], ◌∷◌, ◌++◌, map, Option, None, refl, sym, ap, ap₂, subst, ◌∙◌, ◌⊎◌, inl, inr, append_assoc, append-nil, eqb-true}
use Rattle.std.proofs.lemmas.Bool.{cases_Bool}
use Rattle.std.specs.Prelude.{not}
use Rattle.std.specs.List.{list_any}
use Rattle.channel_machine.specs.Run.{SegmentView}
use Rattle.channel_machine.specs.StartStates.{start_of}
use Rattle.job_types.specs.Job.{JobView}
use Rattle.coord_core.proofs.Entering.{step_start}
use Rattle.coord_core.proofs.Numbers.{AreNumbered, HasNumbers, numbered_first, numbered_step, running_numbered}
use Rattle.channel_machine.proofs.StartNumbers.{start_numbers}
use Rattle.coord_core.proofs.Usage.{Accords, Usage, accords_first, accords_turn, accords_turns, no_usage, usage_after, usage_from}
use Rattle.channel_machine.specs.Scripts.{items_of, run_of, script_of, segment_after}
use Rattle.sync_types.specs.Boards.{Board, State, IsIdle, IsRunning, IsHolding, HasEnded, HasAlarmed, among, channel_numbers, first_board, grant_in, is_running}
use Rattle.sync_types.specs.Runs.{IsRun, Stage, after_turn, as_list, first_stage, is_over, moves_of, stage_after}
use Rattle.sync_types.specs.Turns.{after_step, entries_of}
use Rattle.sync_types.specs.Views.{EntryView, RunView}
use Rattle.sync_types.specs.declared.Grant.{Grant}
use Rattle.sync_types.specs.declared.Item.{Item}
use Rattle.sync_types.specs.declared.Step.{Step}
use Rattle.turnmill.specs.OneResult.{TakeAllTurns, motions_by, motions_in}

-- ---- what is done by grants

-- the items of a segment and the step at its end
abbrev pub Deed : Type 0
Deed = List Item × Step

abbrev pub deed_of : SegmentView → Deed
deed_of segment = (segment.items, segment.step)

-- those of a channel in a run
abbrev pub deeds_by : ℕ → List EntryView → List (List Item) → List Deed
deeds_by c (entry ∷ entries) (items ∷ rest) = if c == entry.channel then (items, entry.step) ∷ deeds_by c entries rest else deeds_by c entries rest
deeds_by c entries rest = []

-- its motions are those of its deeds
motions_done : (c : ℕ) (entries : List EntryView) (rest : List (List Item)) → motions_by c entries rest ≡ map (λ deed. deed.0) (deeds_by c entries rest)
motions_done c [] rest = refl
motions_done c (entry ∷ entries) [] = refl
motions_done c (entry ∷ entries) (items ∷ rest) = by_channel (c == entry.channel) (motions_done c entries rest)
  where
    by_channel : (own : Bool) → motions_by c entries rest ≡ map (λ deed. deed.0) (deeds_by c entries rest)
        → (if own then items ∷ motions_by c entries rest else motions_by c entries rest)
        ≡ map (λ deed. deed.0) (if own then (items, entry.step) ∷ deeds_by c entries rest else deeds_by c entries rest)
    by_channel true later = ap (λ (more : List (List Item)). items ∷ more) later
    by_channel false later = later

-- of a channel that has used some grants, with each of these further ones
abbrev pub deeds_with : JobView → ℕ → List Grant → List Grant → List Deed
deeds_with job c used [] = []
deeds_with job c used (grant ∷ grants) = deed_of (segment_after job c (used ++ grant ∷ [])) ∷ deeds_with job c (used ++ grant ∷ []) grants

-- the grants that a channel uses in these turns, and what it does with them
record Uses (job : JobView) (stage : Stage) (usage : Usage) (b : Board) (cs : List ℕ) (c : ℕ) : Type 0 where
  more : List Grant
  used : usage_from (script_of job) stage usage cs c ≡ usage c ++ more
  deeds : deeds_by c (entries_of b (moves_of (script_of job) stage cs)) (items_of job stage cs) ≡ deeds_with job c (usage c) more

-- a channel that runs has one grant more than it has used
its_grant : (s : State) → is_running s ≡ true → (grant : Grant) × (as_list (grant_in s) ≡ grant ∷ [])
its_grant (IsRunning grant) on = (grant, refl)
its_grant IsIdle on = absurd cc
its_grant (IsHolding hold line) on = absurd cc
its_grant (HasEnded line) on = absurd cc
its_grant (HasAlarmed code line) on = absurd cc

uses : (job : JobView) (stage : Stage) (usage : Usage) (b : Board) (cs : List ℕ) (c : ℕ) → Accords stage usage → IsRun (script_of job) stage cs
    → Uses job stage usage b cs c
uses job stage usage b [] c a run = record { more = []; used = sym (append-nil (usage c)); deeds = refl }
uses job stage usage b (d ∷ ds) c a run =
    by_channel
    (uses job (after_turn (script_of job) stage d) (usage_after stage usage d) (after_step b d (script_of job d (stage.grants d))) ds c
    (accords_turn (script_of job) stage usage d a) run.1)
    (cases_Bool (c == d))
  where
    runs : c ≡ d → is_running (stage.board.state c) ≡ true
    runs same = subst (λ k. is_running (stage.board.state k) ≡ true) (sym same) run.0

    by_channel : Uses job (after_turn (script_of job) stage d) (usage_after stage usage d) (after_step b d (script_of job d (stage.grants d))) ds c
        → ((c == d) ≡ true) ⊎ ((c == d) ≡ false) → Uses job stage usage b (d ∷ ds) c
    by_channel r (inl own) =
        let same : c ≡ d = eqb-true c d own in
        let got = its_grant (stage.board.state c) (runs same) in
        let grants : stage.grants c ≡ usage c ++ got.0 ∷ [] = a.grants c ∙ ap (λ gs. usage c ++ gs) got.1 in
        let now : usage_after stage usage d c ≡ usage c ++ got.0 ∷ [] = rw own grants in
        let here : deed_of (segment_after job d (stage.grants d)) ≡ deed_of (segment_after job c (usage c ++ got.0 ∷ [])) =
        ap (λ k. deed_of (segment_after job k (stage.grants k))) (sym same) ∙ ap (λ gs. deed_of (segment_after job c gs)) grants in
        record {
          more = got.0 ∷ r.more;
          used = r.used ∙ ap (λ gs. gs ++ r.more) now ∙ append_assoc (usage c) (got.0 ∷ []) r.more;
          deeds = rw own (ap₂ (λ x xs. x ∷ xs) here (r.deeds ∙ ap (λ gs. deeds_with job c gs r.more) now));
        }
    by_channel r (inr other) =
        let now : usage_after stage usage d c ≡ usage c = rw other refl in
        record {
          more = r.more;
          used = r.used ∙ ap (λ gs. gs ++ r.more) now;
          deeds = rw other (r.deeds ∙ ap (λ gs. deeds_with job c gs r.more) now);
        }

-- ---- where no channel runs each has used all its grants

numbered_after : (job : JobView) (stage : Stage) (cs : List ℕ) → HasNumbers stage.board.start → AreNumbered stage.board → IsRun (script_of job) stage cs
    → AreNumbered (stage_after (script_of job) stage cs).board
numbered_after job stage [] known idle run = idle
numbered_after job stage (c ∷ cs) known idle run =
    let step : Step = script_of job c (stage.grants c) in
    numbered_after job (after_turn (script_of job) stage c) cs
    (subst HasNumbers (sym (step_start stage.board c step)) known)
    (numbered_step stage.board c step known (running_numbered stage.board c idle run.0) idle) run.1

none_passes : (p : ℕ → Bool) (xs : List ℕ) (c : ℕ) → list_any (λ m. m == c) xs ≡ true → list_any p xs ≡ false → p c ≡ false
none_passes p [] c there none = absurd cc
none_passes p (x ∷ xs) c there none = elim (cases_Bool (p x)) [
  | inl on ↦ let bad : true ≡ false = rw on at none in absurd cc
  | inr off ↦ elim (cases_Bool (x == c)) [
    | inl here ↦ subst (λ k. p k ≡ false) (eqb-true x c here) off
    | inr other ↦ none_passes p xs c (rw other at there) (rw off at none)
  ]
]

not_true : (b : Bool) → not b ≡ true → b ≡ false
not_true true is = absurd cc
not_true false is = refl

no_grant : (s : State) → is_running s ≡ false → grant_in s ≡ None
no_grant (IsRunning grant) off = absurd cc
no_grant IsIdle off = refl
no_grant (IsHolding hold line) off = refl
no_grant (HasEnded line) off = refl
no_grant (HasAlarmed code line) off = refl

stopped : (b : Board) → AreNumbered b → is_over b ≡ true → (c : ℕ) → grant_in (b.state c) ≡ None
stopped b idle over c = by_number (cases_Bool (among channel_numbers c))
  where
    by_number : (among channel_numbers c ≡ true) ⊎ (among channel_numbers c ≡ false) → grant_in (b.state c) ≡ None
    by_number (inl numbered) =
        no_grant (b.state c) (none_passes (λ d. is_running (b.state d)) channel_numbers c numbered (not_true (list_any (λ d. is_running (b.state d)) channel_numbers) over))
    by_number (inr other) = ap grant_in (idle c other)

all_used : (job : JobView) (turns : List ℕ) → TakeAllTurns job turns → (c : ℕ)
    → (stage_after (script_of job) (first_stage (start_of job)) turns).grants c ≡ usage_from (script_of job) (first_stage (start_of job)) no_usage turns c
all_used job turns whole c =
    let start = start_of job in
    let b = (stage_after (script_of job) (first_stage start) turns).board in
    let used = usage_from (script_of job) (first_stage start) no_usage turns c in
    let known : HasNumbers start = start_numbers job in
    let none : grant_in (b.state c) ≡ None = stopped b (numbered_after job (first_stage start) turns known (numbered_first start known) whole.run) whole.over c in
    (accords_turns (script_of job) (first_stage start) no_usage turns (accords_first start)).grants c
    ∙ ap (λ (o : Option Grant). used ++ as_list o) none
    ∙ append-nil used

-- what a channel does in a run of the job
abbrev pub deeds_in : RunView → ℕ → List Deed
deeds_in run c = deeds_by c run.entries run.items

-- so what a channel does is one where its grants are
pub same_deeds : (job : JobView) (turns others : List ℕ) → TakeAllTurns job turns → TakeAllTurns job others → (c : ℕ)
    → (stage_after (script_of job) (first_stage (start_of job)) turns).grants c ≡ (stage_after (script_of job) (first_stage (start_of job)) others).grants c
    → deeds_in (run_of job (start_of job) turns) c ≡ deeds_in (run_of job (start_of job) others) c
same_deeds job turns others whole other_whole c grants =
    let start = start_of job in
    let u = uses job (first_stage start) no_usage (first_board start) turns c (accords_first start) whole.run in
    let v = uses job (first_stage start) no_usage (first_board start) others c (accords_first start) other_whole.run in
    let more : u.more ≡ v.more = sym u.used ∙ sym (all_used job turns whole c) ∙ grants ∙ all_used job others other_whole c ∙ v.used in
    u.deeds ∙ ap (λ gs. deeds_with job c [] gs) more ∙ sym v.deeds

-- and so are its motions
pub same_motions : (job : JobView) (turns others : List ℕ) → TakeAllTurns job turns → TakeAllTurns job others → (c : ℕ)
    → (stage_after (script_of job) (first_stage (start_of job)) turns).grants c ≡ (stage_after (script_of job) (first_stage (start_of job)) others).grants c
    → motions_in (run_of job (start_of job) turns) c ≡ motions_in (run_of job (start_of job) others) c
same_motions job turns others whole other_whole c grants =
    let run = run_of job (start_of job) turns in
    let other = run_of job (start_of job) others in
    motions_done c run.entries run.items
    ∙ ap (λ (deeds : List Deed). map (λ deed. deed.0) deeds) (same_deeds job turns others whole other_whole c grants)
    ∙ sym (motions_done c other.entries other.items)
