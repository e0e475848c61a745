-- The steps of a run, one after another.
use Rattle.std.proofs.Common.{◌≡◌, ◌∙◌, ℕ, ℤ, suc, ◌<◌, true, false, inl, inr, List, [], ◌∷◌, length, Option, None, Some, refl, sym, subst, slice_index_or, arith}
use Rattle.std.proofs.lemmas.Bool.{cases_Bool}
use Rattle.axis_sets.specs.Sets.{has}
use Rattle.axis_sets.specs.declared.limits.TheConstants.{AXIS_LIMIT}
use Rattle.order_clocks.proofs.WholeLaws.{entry_at}
use Rattle.order_clocks.specs.Clocked.{moves_in}
use Rattle.order_clocks.specs.Happenings.{Happening, board_at, happening_at, happening_of}
use Rattle.order_clocks.specs.Watching.{IsRead, wait_in}
use Rattle.explain_ends.specs.LastBoards.{IsTold}
use Rattle.explain_ends.specs.declared.boards.LastBoard.{LastBoard}
use Rattle.step_deeds.specs.declared.deed.StepEvents.{StepEvents}
use Rattle.sync_types.specs.Boards.{Board, first_board, first_state, is_running, owner_of, ownership_of}
use Rattle.sync_types.specs.Starts.{first_owner, first_position, runs_at_first}
use Rattle.sync_types.specs.Turns.{AreEntries, after_entries, after_step}
use Rattle.sync_types.specs.Views.{EntryView, StartView}
use Rattle.sync_types.specs.declared.Step.{Step}

-- after all steps
pub board_at_end : (es : List EntryView) (b : Board) → board_at b (moves_in es) (length es) ≡ after_entries b es
board_at_end [] b = refl
board_at_end (e ∷ es) b = board_at_end es (after_step b e.channel e.step)

-- one step more
with_entry : (es : List EntryView) (b : Board) (i : ℕ) (e : EntryView) (old new : LastBoard) (deed : StepEvents) → i < length es → AreEntries b es → IsRead deed (happening_at b (moves_in es) i)
    → ((a : Board) (c : ℕ) (step : Step) → IsTold old a → is_running (a.state c) ≡ true → IsRead deed (happening_of a c step) → IsTold new (after_step a c step))
    → IsTold old (board_at b (moves_in es) i) → IsTold new (board_at b (moves_in es) (suc i))
with_entry es b i e old new deed within are read tells told =
    let at = entry_at es b i e within are in
    let one : EntryView = slice_index_or es i e in
    subst (λ (a : Board). IsTold new a) (sym at.next)
    (tells (board_at b (moves_in es) i) one.channel one.step told at.running (subst (λ (h : Happening). IsRead deed h) at.happening read))

pub step_told : (es : List EntryView) (b : Board) (i : ℕ) (old new : LastBoard) (deed : StepEvents) → i < length es → AreEntries b es → IsRead deed (happening_at b (moves_in es) i)
    → ((a : Board) (c : ℕ) (step : Step) → IsTold old a → is_running (a.state c) ≡ true → IsRead deed (happening_of a c step) → IsTold new (after_step a c step))
    → IsTold old (board_at b (moves_in es) i) → IsTold new (board_at b (moves_in es) (suc i))
step_told [] b i old new deed within are read tells told = absurd (omega arith)
step_told (e ∷ es) b i old new deed within are read tells told = with_entry (e ∷ es) b i e old new deed within are read tells told

-- ---- before the first step

first_waits : (start : StartView) (c : ℕ) → wait_in ((first_board start).state c) ≡ None
unfolding first_state
first_waits start c = elim (cases_Bool (runs_at_first start c)) [ inl on ↦ rw on refl | inr off ↦ rw off refl ]

owner_is : (o : Option ℕ) (p : ℤ) → owner_of (ownership_of o p) ≡ o
owner_is (Some c) p = refl
owner_is None p = refl

pub first_told : (start : StartView) (first : LastBoard) → ((c m : ℕ) → has (slice_index_or first.marks c []) m ≡ false) → ((c : ℕ) → slice_index_or first.holds c None ≡ None)
    → ((x : ℕ) → x < AXIS_LIMIT → slice_index_or first.owners x None ≡ first_owner start x) → IsTold first (first_board start)
first_told start first marks holds owners = record {
  marks = λ c m from below. marks c m;
  holds = λ c from below. rw (holds c) (sym (first_waits start c));
  owners = λ x below. owners x below ∙ sym (owner_is (first_owner start x) (first_position start x));
}
