-- After a step nobody can go on.
use Rattle.std.proofs.Common.{◌-◌}
use Rattle.axis_sets.specs.declared.limits.TheConstants.{CHANNEL_LIMIT}
use Rattle.std.proofs.Common.{eq-eqb, eqb-true, arith, inl, inr, ◌≡◌, ℕ, ◌<◌, ◌≤◌, zero, suc, ◌==◌, ◌&&◌, ◌||◌, Bool, true, false, List, [], ◌∷◌, ◌++◌, length, map, Option, Some, None, filter, refl, ap, ap₂, ◌∙◌}
use Rattle.std.specs.Prelude.{is_some}
use Rattle.std.proofs.lemmas.Bool.{cases_Bool, and_parts, and_from, or_cases, or_left, or_right, false_from_ne_true}
use Rattle.std.specs.List.{list_all}
use Rattle.sync_types.proofs.BoardTests.{no_truth, among_kept, by_test, first_passes}
use Rattle.sync_types.specs.BoardActions.{after_own_part, after_part, after_alarm, state_after_alarm, channels_started}
use Rattle.sync_types.specs.BoardAlarms.{alarm_of}
use Rattle.sync_types.specs.Boards.{AtMarks, AtEnds, AtAxes, State, IsIdle, IsRunning, IsHolding, HasEnded, HasAlarmed, Board, among, channel_numbers, has_ended, owner_of, stands}
use Rattle.sync_types.specs.GoingOn.{Going, goes_at_once, goers_at_once, marks_after_goes, state_after_goes, after_goes, waits_for_axes, axes_asked, takes_from_standing, may_be_taken, can_have, can_take, first_of, next_taker, state_after_taking, after_taking, takings, takings_from, goings_on, going_at_once}
use Rattle.sync_types.specs.RunLaws.{NobodyCanGo, AlarmLetsNobodyGo}
use Rattle.sync_types.specs.Turns.{after_step}
use Rattle.sync_types.specs.declared.Step.{Step}

-- what all pass by a test, they pass by a weaker one
all_by_weaker : (p q : ℕ → Bool) (xs : List ℕ) → ((x : ℕ) → q x ≡ true → p x ≡ true) → list_all q xs ≡ true → list_all p xs ≡ true
all_by_weaker p q [] weaker all = refl
all_by_weaker p q (x ∷ xs) weaker all =
    let parts = and_parts (q x) (list_all q xs) all in
    rw (weaker x parts.0, all_by_weaker p q xs weaker parts.1) refl

-- a wait without its end has none on a board with fewer marks and ends
still_waits : (b a : Board) (s : State) → ((d m : ℕ) → a.marks d m ≡ true → b.marks d m ≡ true) → ((d : ℕ) → has_ended (a.state d) ≡ true → has_ended (b.state d) ≡ true)
    → goes_at_once b s ≡ false → goes_at_once a s ≡ false
still_waits b a (IsHolding (AtMarks m named) line) marks ends off =
    false_from_ne_true _ (λ on. no_truth (goes_at_once b (IsHolding (AtMarks m named) line)) (all_by_weaker (λ d. b.marks d m) (λ d. a.marks d m) named (λ d. marks d m) on) off)
still_waits b a (IsHolding (AtEnds named) line) marks ends off =
    false_from_ne_true _ (λ on. no_truth (goes_at_once b (IsHolding (AtEnds named) line)) (all_by_weaker (λ d. has_ended (b.state d)) (λ d. has_ended (a.state d)) named ends on) off)
still_waits b a (IsHolding (AtAxes from_standing axes) line) marks ends off = refl
still_waits b a IsIdle marks ends off = refl
still_waits b a (IsRunning grant) marks ends off = refl
still_waits b a (HasEnded line) marks ends off = refl
still_waits b a (HasAlarmed code line) marks ends off = refl

-- no channel goes at once
abbrev pub Waits : Board → Type 0
Waits b = (c : ℕ) → among channel_numbers c ≡ true → goes_at_once b (b.state c) ≡ false

kept_off : (p : ℕ → Bool) (xs : List ℕ) (x : ℕ) → among xs x ≡ true → among (filter p xs) x ≡ false → p x ≡ false
kept_off p xs x in_it out = false_from_ne_true (p x) (λ on. no_truth (among (filter p xs) x) (among_kept p xs x ∙ rw (in_it, on) refl) out)

waits_after_goes : (b : Board) → Waits (after_goes b)
unfolding state_after_goes marks_after_goes
waits_after_goes b c in_it = by_test (λ s. goes_at_once (after_goes b) s ≡ false) (among (goers_at_once b) c) _ _
    (λ goes. refl)
    (λ stays. still_waits b (after_goes b) (b.state c)
    (λ d m on. (and_parts (b.marks d m) _ on).0)
    (λ d. by_test (λ s. has_ended s ≡ true → has_ended (b.state d) ≡ true) (among (goers_at_once b) d) _ _ (λ goes on. no_truth false on refl) (λ other on. on))
    (kept_off (λ e. goes_at_once b (b.state e)) channel_numbers c in_it stays))

waits_after_taking : (b : Board) (c : ℕ) → Waits b → Waits (after_taking b c)
unfolding state_after_taking
waits_after_taking b c waits e in_it = by_test (λ s. goes_at_once (after_taking b c) s ≡ false) (e == c) _ _
    (λ here. refl)
    (λ other. still_waits b (after_taking b c) (b.state e)
    (λ d m on. on)
    (λ d. by_test (λ s. has_ended s ≡ true → has_ended (b.state d) ≡ true) (d == c) _ _ (λ here on. no_truth false on refl) (λ other on. on))
    (waits e in_it))

waits_after_takings : (n : ℕ) (b : Board) → Waits b → Waits (takings n b).board
waits_after_takings zero b waits = waits
waits_after_takings (suc n) b waits = next (waits_after_takings n) (next_taker b)
  where
    next : ((a : Board) → Waits a → Waits (takings n a).board) → (taker : Option ℕ) → Waits (takings_from (takings n) b taker).board
    next rest None = waits
    next rest (Some c) = rest (after_taking b c) (waits_after_taking b c waits)

none_kept : (p : ℕ → Bool) (xs : List ℕ) → ((x : ℕ) → among xs x ≡ true → p x ≡ false) → filter p xs ≡ []
none_kept p [] none = refl
none_kept p (y ∷ ys) none = rw (none y (here y)) (none_kept p ys (λ x on. none x (later x on)))
  where
    here : (z : ℕ) → ((z == z) || among ys z) ≡ true
    here z = rw (eq-eqb z z refl) refl

    later : (x : ℕ) → among ys x ≡ true → ((y == x) || among ys x) ≡ true
    later x on = elim (cases_Bool (y == x)) [ inl same ↦ rw same refl | inr other ↦ rw other on ]

-- each taking leaves one fewer that waits for axes
abbrev pub waiters : Board → List ℕ
waiters b = filter (λ c. waits_for_axes (b.state c)) channel_numbers

pub fewer : (p q : ℕ → Bool) (xs : List ℕ) → ((x : ℕ) → q x ≡ true → p x ≡ true) → length (filter q xs) ≤ length (filter p xs)
fewer p q [] weaker = omega arith
fewer p q (x ∷ xs) weaker = elim (cases_Bool (q x)) [
  | inl on ↦ rw (on, weaker x on) (omega (arith, fewer p q xs weaker))
  | inr off ↦ rw off (elim (cases_Bool (p x)) [ inl is ↦ rw is (omega (arith, fewer p q xs weaker)) | inr out ↦ rw out (fewer p q xs weaker) ])
]

one_fewer : (p q : ℕ → Bool) (xs : List ℕ) (c : ℕ) → among xs c ≡ true → p c ≡ true → q c ≡ false → ((x : ℕ) → q x ≡ true → p x ≡ true) → length (filter q xs) < length (filter p xs)
one_fewer p q [] c in_it on off weaker = no_truth false in_it refl
one_fewer p q (x ∷ xs) c in_it on off weaker = elim (cases_Bool (x == c)) [
  | inl here ↦
      let same : x ≡ c = eqb-true x c here in
      rw (ap p same ∙ on, ap q same ∙ off) (omega (arith, fewer p q xs weaker))
  | inr other ↦
      let less = one_fewer p q xs c (rw other at in_it) on off weaker in
      elim (cases_Bool (q x)) [
        | inl is ↦ rw (is, weaker x is) (omega (arith, less))
        | inr out ↦ rw out (elim (cases_Bool (p x)) [ inl is_p ↦ rw is_p (omega (arith, less)) | inr no_p ↦ rw no_p less ])
      ]
]

first_listed : (p : ℕ → Bool) (xs : List ℕ) (x : ℕ) → first_of (filter p xs) ≡ Some x → among xs x ≡ true
first_listed p [] x e = absurd (none_not_some x e)
  where
    none_not_some : (n : ℕ) → None ≡ Some n → ⊥
    none_not_some n bad = cc
first_listed p (y ∷ ys) x e = elim (cases_Bool (p y)) [
  | inl on ↦
      let first : Some y ≡ Some x = rw on at e in
      let same : y ≡ x = cc in
      rw (eq-eqb y x same) refl
  | inr off ↦ later (y == x) (among ys x) (first_listed p ys x (rw off at e))
]
  where
    later : (t u : Bool) → u ≡ true → (t || u) ≡ true
    later true u on = refl
    later false u on = on

pub fewer_after_taking : (b : Board) (c : ℕ) → next_taker b ≡ Some c → length (waiters (after_taking b c)) < length (waiters b)
unfolding state_after_taking
fewer_after_taking b c takes = one_fewer (λ d. waits_for_axes (b.state d)) (λ d. waits_for_axes ((after_taking b c).state d)) channel_numbers c
    (first_listed (can_take b) channel_numbers c takes)
    (and_parts (waits_for_axes (b.state c)) _ (first_passes (can_take b) channel_numbers c takes)).0
    (by_test (λ s. waits_for_axes s ≡ false) (c == c) _ _ (λ here. refl) (λ other. no_truth (c == c) (eq-eqb c c refl) other))
    (λ d. by_test (λ s. waits_for_axes s ≡ true → waits_for_axes (b.state d) ≡ true) (d == c) _ _ (λ here on. no_truth false on refl) (λ other on. on))

no_taker_among : (p q : ℕ → Bool) (xs : List ℕ) → length (filter p xs) ≤ 0 → first_of (filter (λ c. p c && q c) xs) ≡ None
no_taker_among p q [] few = refl
no_taker_among p q (x ∷ xs) few = elim (cases_Bool (p x)) [
  | inl on ↦ let more : suc (length (filter p xs)) ≤ 0 = rw on at few in absurd (omega (arith, more))
  | inr off ↦ rw off (no_taker_among p q xs (rw off at few))
]

no_taker_left : (n : ℕ) (b : Board) → length (waiters b) ≤ n → next_taker (takings n b).board ≡ None
no_taker_left zero b few = no_taker_among (λ c. waits_for_axes (b.state c)) (λ c. list_all (can_have b c) (axes_asked (b.state c))) channel_numbers few
no_taker_left (suc n) b few = next (no_taker_left n) (next_taker b) refl
  where
    next : ((a : Board) → length (waiters a) ≤ n → next_taker (takings n a).board ≡ None) → (taker : Option ℕ) → next_taker b ≡ taker → next_taker (takings_from (takings n) b taker).board ≡ None
    next rest None is = is
    next rest (Some c) is = rest (after_taking b c) (omega (arith, few, fewer_after_taking b c is))

at_most_all : (p : ℕ → Bool) (xs : List ℕ) → length (filter p xs) ≤ length xs
at_most_all p [] = omega arith
at_most_all p (x ∷ xs) = elim (cases_Bool (p x)) [ inl on ↦ rw on (omega (arith, at_most_all p xs)) | inr off ↦ rw off (omega (arith, at_most_all p xs)) ]

pub settled : (b : Board) (c : ℕ) (step : Step) → NobodyCanGo (after_step b c step)
settled b c step =
    let own : Board = after_own_part b c step in
    record {
      no_goer = none_kept (λ d. goes_at_once (after_step b c step) ((after_step b c step).state d)) channel_numbers (waits_after_takings CHANNEL_LIMIT (after_goes own) (waits_after_goes own));
      no_taker = no_taker_left CHANNEL_LIMIT (after_goes own) (at_most_all (λ d. waits_for_axes ((after_goes own).state d)) channel_numbers);
    }

empty_from : (xs : List ℕ) → first_of xs ≡ None → xs ≡ []
empty_from [] none = refl
empty_from (x ∷ xs) none = absurd (some_not_none x none)
  where
    some_not_none : (n : ℕ) → Some n ≡ None → ⊥
    some_not_none n bad = cc

-- a channel in a state takes its axes
abbrev takes_in : Board → ℕ → State → Bool
takes_in b c s = waits_for_axes s && list_all (λ x. may_be_taken b c (takes_from_standing s) (owner_of (b.axis x))) (axes_asked s)

-- from fewer that stand fewer axes can be taken
from_fewer : (b a : Board) (c : ℕ) (from_standing : Bool) (owner : Option ℕ) → ((d : ℕ) → stands (a.state d) ≡ true → stands (b.state d) ≡ true)
    → may_be_taken a c from_standing owner ≡ true → may_be_taken b c from_standing owner ≡ true
from_fewer b a c from_standing None stood can = refl
from_fewer b a c from_standing (Some d) stood can = elim (or_cases (d == c) (from_standing && stands (a.state d)) can) [
  | inl own ↦ or_left (d == c) (from_standing && stands (b.state d)) own
  | inr taken ↦
      let parts = and_parts from_standing (stands (a.state d)) taken in
      or_right (d == c) (from_standing && stands (b.state d)) (and_from from_standing (stands (b.state d)) parts.0 (stood d parts.1))
]

waits_of : (b : Board) → NobodyCanGo b → Waits b
waits_of b rest c in_it = kept_off (λ d. goes_at_once b (b.state d)) channel_numbers c in_it (ap (λ xs. among xs c) rest.no_goer)

takes_none : (b : Board) → NobodyCanGo b → (c : ℕ) → among channel_numbers c ≡ true → can_take b c ≡ false
takes_none b rest c in_it = kept_off (can_take b) channel_numbers c in_it (ap (λ xs. among xs c) (empty_from (filter (can_take b) channel_numbers) rest.no_taker))

no_goer_after_alarm : (b : Board) (c : ℕ) (step : Step) (code : ℕ) → NobodyCanGo b → goers_at_once (after_alarm b c step code) ≡ []
unfolding state_after_alarm
no_goer_after_alarm b c step code rest = none_kept (λ d. goes_at_once (after_alarm b c step code) ((after_alarm b c step code).state d)) channel_numbers (λ d in_it.
    by_test (λ s. goes_at_once (after_alarm b c step code) s ≡ false) (d == c) _ _ (λ here. refl) (λ other.
    still_waits b (after_alarm b c step code) (b.state d) (λ e m on. on)
    (λ e. by_test (λ s. has_ended s ≡ true → has_ended (b.state e) ≡ true) (e == c) _ _ (λ here on. no_truth false on refl) (λ other on. on))
    (waits_of b rest d in_it)))

-- who stands after an alarm stood before it
stood_before : (b : Board) (c : ℕ) (step : Step) (code d : ℕ) → stands ((after_goes (after_alarm b c step code)).state d) ≡ true → stands (b.state d) ≡ true
unfolding state_after_alarm state_after_goes
stood_before b c step code d = by_test (λ s. stands s ≡ true → stands (b.state d) ≡ true) (among (goers_at_once (after_alarm b c step code)) d) _ _
    (λ goes on. no_truth false on refl)
    (λ stays. by_test (λ s. stands s ≡ true → stands (b.state d) ≡ true) (d == c) _ _ (λ here on. no_truth false on refl) (λ other on. on))

no_taker_after_alarm : (b : Board) (c : ℕ) (step : Step) (code : ℕ) → NobodyCanGo b → next_taker (after_goes (after_alarm b c step code)) ≡ None
unfolding state_after_alarm state_after_goes
no_taker_after_alarm b c step code rest = ap first_of (none_kept (can_take (after_goes (after_alarm b c step code))) channel_numbers (λ d in_it.
    let a : Board = after_goes (after_alarm b c step code) in
    by_test (λ s. takes_in a d s ≡ false) (among (goers_at_once (after_alarm b c step code)) d) _ _ (λ goes. refl) (λ stays.
    by_test (λ s. takes_in a d s ≡ false) (d == c) _ _ (λ here. refl) (λ other. false_from_ne_true _ (λ takes.
    let parts = and_parts (waits_for_axes (b.state d)) _ takes in
    no_truth (can_take b d) (and_from (waits_for_axes (b.state d)) _ parts.0
    (all_by_weaker (can_have b d) (λ x. may_be_taken a d (takes_from_standing (b.state d)) (owner_of (b.axis x))) (axes_asked (b.state d))
    (λ x. from_fewer b a d (takes_from_standing (b.state d)) (owner_of (b.axis x)) (stood_before b c step code)) parts.1)) (takes_none b rest d in_it))))))

alarmed_goings : (b : Board) (c : ℕ) (step : Step) (alarm : Option ℕ) → NobodyCanGo b → is_some alarm ≡ true → goings_on (after_part b c step alarm) (channels_started alarm step.action) ≡ []
alarmed_goings b c step None rest alarms = no_truth false alarms refl
alarmed_goings b c step (Some code) rest alarms =
    let a : Board = after_alarm b c step code in
    ap₂ (λ (cs : List ℕ) (gs : List Going). map (going_at_once a) cs ++ gs) (no_goer_after_alarm b c step code rest)
    (ap (λ (t : Option ℕ). (takings_from (takings (CHANNEL_LIMIT - 1)) (after_goes a) t).goings) (no_taker_after_alarm b c step code rest))

pub alarm_lets_nobody_go : (b : Board) (c : ℕ) (step : Step) → AlarmLetsNobodyGo b c step
alarm_lets_nobody_go b c step rest alarms = alarmed_goings b c step (alarm_of b c step.action) rest alarms
