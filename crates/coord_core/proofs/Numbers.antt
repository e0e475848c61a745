-- Channels that the machine has not are idle for good, so all that run have numbers from 1 to 8.
use Rattle.axis_sets.specs.declared.limits.TheConstants.{CHANNEL_LIMIT}
use Rattle.std.proofs.Common.{◌≡◌, ℕ, zero, suc, ◌+◌, ◌<◌, ◌≤◌, ◌==◌, Bool, true, false, List, [], ◌∷◌, filter, Option, Some, None, refl, sym, ap, ◌∙◌, eqb-true, eq-eqb, inl, inr, arith}
use Rattle.std.specs.List.{range_with_len}
use Rattle.std.proofs.lemmas.Bool.{cases_Bool, and_parts}
use Rattle.axis_sets.specs.Sets.{members_of}
use Rattle.sync_types.proofs.BoardTests.{no_truth, passes, among_kept, by_test, not_not, not_found}
use Rattle.sync_types.specs.Boards.{IsIdle, Board, among, channel_numbers, first_board, first_state, is_running}
use Rattle.sync_types.specs.BoardAlarms.{alarm_of, names_no_channel}
use Rattle.sync_types.specs.BoardActions.{channels_to_start, state_after_alarm, state_after_action, after_alarm, after_action, after_part, after_own_part}
use Rattle.sync_types.specs.GoingOn.{goes_at_once, goers_at_once, state_after_goes, after_goes, can_take, first_of, next_taker, state_after_taking, after_taking, takings, takings_from}
use Rattle.sync_types.specs.Runs.{lowest_running}
use Rattle.sync_types.specs.Starts.{has_channel, runs_at_first}
use Rattle.sync_types.specs.Turns.{after_entries, after_step}
use Rattle.sync_types.specs.Views.{StartView, EntryView}
use Rattle.sync_types.specs.declared.Action.{Action}
use Rattle.sync_types.specs.declared.Action.TheVariants.{Start}
use Rattle.sync_types.specs.declared.Step.{Step}
use Rattle.coord_core.proofs.Entering.{step_start}
use Rattle.coord_core.proofs.Staying.{no_alarm}

-- a channel of the machine has one of the eight numbers
abbrev pub HasNumbers : StartView → Type 0
HasNumbers start = (d : ℕ) → has_channel start d ≡ true → among channel_numbers d ≡ true

-- what has no such number is idle
abbrev pub AreNumbered : Board → Type 0
AreNumbered b = (d : ℕ) → among channel_numbers d ≡ false → b.state d ≡ IsIdle

in_range : (a n c : ℕ) → a ≤ c → c < a + n → among (range_with_len a n) c ≡ true
in_range a zero c from below = absurd (omega arith)
in_range a (suc n) c from below = elim (cases_Bool (a == c)) [
  | inl here ↦ rw here refl
  | inr other ↦
      let apart : a ≡ c → ⊥ = λ same. no_truth (a == c) (eq-eqb a c same) other in
      rw other (in_range (a + 1) n c (omega arith) (omega arith))
]

pub numbered : (c : ℕ) → 1 ≤ c → c ≤ CHANNEL_LIMIT → among channel_numbers c ≡ true
numbered c from upto = in_range 1 CHANNEL_LIMIT c from (omega arith)

pub first_listed : (p : ℕ → Bool) (xs : List ℕ) (x : ℕ) → first_of (filter p xs) ≡ Some x → among xs x ≡ true
first_listed p [] x e = absurd (none_not_some x e)
  where
    none_not_some : (n : ℕ) → None ≡ Some n → ⊥
    none_not_some n bad = cc
first_listed p (y ∷ ys) x e = elim (cases_Bool (p y)) [
  | inl on ↦
      let first : Some y ≡ Some x = rw on at e in
      let same : y ≡ x = cc in
      rw (eq-eqb y x same) refl
  | inr off ↦ elim (cases_Bool (y == x)) [
    | inl here ↦ rw here refl
    | inr other ↦ rw other (first_listed p ys x (rw off at e))
  ]
]

pub lowest_numbered : (b : Board) (c : ℕ) → lowest_running b ≡ Some c → among channel_numbers c ≡ true
lowest_numbered b c lowest = first_listed (λ d. is_running (b.state d)) channel_numbers c lowest

-- the start of a board stays
pub start_of_entries : (b : Board) (es : List EntryView) → (after_entries b es).start ≡ b.start
start_of_entries b [] = refl
start_of_entries b (e ∷ es) = start_of_entries (after_step b e.channel e.step) es ∙ step_start b e.channel e.step

-- ---- and who is idle for good

pub numbered_first : (start : StartView) → HasNumbers start → AreNumbered (first_board start)
unfolding first_state
numbered_first start known d off = by_test (λ s. s ≡ IsIdle) (runs_at_first start d) _ _ (λ runs. no_truth (among channel_numbers d) (known d (has d runs)) off) (λ rests. refl)
  where
    has : (d : ℕ) → runs_at_first start d ≡ true → has_channel start d ≡ true
    has d runs = elim (cases_Bool (has_channel start d)) [
      | inl on ↦ on
      | inr none ↦ no_truth (runs_at_first start d) runs (not_found (λ line. line.0 == d) start.channels none)
    ]

one_number : (d c : ℕ) → (d == c) ≡ true → among channel_numbers c ≡ true → among channel_numbers d ≡ true
one_number d c here on = ap (among channel_numbers) (eqb-true d c here) ∙ on

starts_known : (b : Board) (action : Action) (d : ℕ) → names_no_channel b action ≡ false → among (channels_to_start action) d ≡ true → has_channel b.start d ≡ true
starts_known b (Start named) d known on = passes (has_channel b.start) (members_of named) d (not_not _ known) on
starts_known b other d known on = no_truth false on refl

numbered_alarm : (b : Board) (c : ℕ) (step : Step) (code : ℕ) → among channel_numbers c ≡ true → AreNumbered b → AreNumbered (after_alarm b c step code)
unfolding state_after_alarm
numbered_alarm b c step code on idle d off = by_test (λ s. s ≡ IsIdle) (d == c) _ _ (λ here. no_truth (among channel_numbers d) (one_number d c here on) off) (λ other. idle d off)

numbered_action : (b : Board) (c : ℕ) (step : Step) → HasNumbers b.start → names_no_channel b step.action ≡ false → among channel_numbers c ≡ true → AreNumbered b → AreNumbered (after_action b c step)
unfolding state_after_action
numbered_action b c step known there on idle d off = by_test (λ s. s ≡ IsIdle) (d == c) _ _
    (λ here. no_truth (among channel_numbers d) (one_number d c here on) off)
    (λ other. by_test (λ s. s ≡ IsIdle) (among (channels_to_start step.action) d) _ _
    (λ starts. no_truth (among channel_numbers d) (known d (starts_known b step.action d there starts)) off)
    (λ rests. idle d off))

numbered_part : (b : Board) (c : ℕ) (step : Step) (alarm : Option ℕ) → alarm_of b c step.action ≡ alarm → HasNumbers b.start → among channel_numbers c ≡ true → AreNumbered b → AreNumbered (after_part b c step alarm)
numbered_part b c step (Some code) is known on idle = numbered_alarm b c step code on idle
numbered_part b c step None is known on idle = numbered_action b c step known (no_alarm b c step.action is).known on idle

numbered_goes : (b : Board) → AreNumbered b → AreNumbered (after_goes b)
unfolding state_after_goes
numbered_goes b idle d off = by_test (λ s. s ≡ IsIdle) (among (goers_at_once b) d) _ _
    (λ goes. no_truth (among channel_numbers d) (and_parts (among channel_numbers d) (goes_at_once b (b.state d)) (sym (among_kept (λ c. goes_at_once b (b.state c)) channel_numbers d) ∙ goes)).0 off)
    (λ rests. idle d off)

numbered_taking : (b : Board) (c : ℕ) → among channel_numbers c ≡ true → AreNumbered b → AreNumbered (after_taking b c)
unfolding state_after_taking
numbered_taking b c on idle d off = by_test (λ s. s ≡ IsIdle) (d == c) _ _ (λ here. no_truth (among channel_numbers d) (one_number d c here on) off) (λ other. idle d off)

numbered_takings : (n : ℕ) (b : Board) → AreNumbered b → AreNumbered (takings n b).board
numbered_takings zero b idle = idle
numbered_takings (suc n) b idle = next (numbered_takings n) (next_taker b) refl
  where
    next : ((a : Board) → AreNumbered a → AreNumbered (takings n a).board) → (taker : Option ℕ) → next_taker b ≡ taker → AreNumbered (takings_from (takings n) b taker).board
    next rest None is = idle
    next rest (Some c) is = rest (after_taking b c) (numbered_taking b c (first_listed (can_take b) channel_numbers c is) idle)

pub numbered_step : (b : Board) (c : ℕ) (step : Step) → HasNumbers b.start → among channel_numbers c ≡ true → AreNumbered b → AreNumbered (after_step b c step)
numbered_step b c step known on idle =
    numbered_takings CHANNEL_LIMIT (after_goes (after_own_part b c step)) (numbered_goes (after_own_part b c step) (numbered_part b c step (alarm_of b c step.action) refl known on idle))

-- who runs has a number
pub running_numbered : (b : Board) (c : ℕ) → AreNumbered b → is_running (b.state c) ≡ true → among channel_numbers c ≡ true
running_numbered b c idle runs = elim (cases_Bool (among channel_numbers c)) [
  | inl on ↦ on
  | inr off ↦ no_truth (is_running (b.state c)) runs (ap is_running (idle c off))
]
