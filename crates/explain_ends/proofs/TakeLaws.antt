-- Who owns an axis after a step.
use Rattle.axis_sets.specs.declared.limits.TheConstants.{CHANNEL_LIMIT, CHANNEL_PLACES}
use Rattle.std.proofs.Common.{◌≡◌, ◌∙◌, ◌⊎◌, ℕ, zero, suc, ◌+◌, ◌<◌, ◌≤◌, ◌==◌, ◌&&◌, ◌||◌, not, Bool, true, false, inl, inr, List, [], ◌∷◌, ◌++◌, map, filter, Option, None, Some, if◌then◌else◌, refl, sym, ap, subst, arith}
use Rattle.std.specs.List.{range_with_len}
use Rattle.std.proofs.lemmas.Bool.{and_parts, cases_Bool, eqb-true, eq-eqb, or_cases}
use Rattle.order_clocks.specs.Chains.{IsIn}
use Rattle.order_clocks.specs.Happenings.{axes_freed}
use Rattle.sync_types.proofs.BoardTests.{by_test, first_passes, no_truth}
use Rattle.sync_types.proofs.TakenAxes.{may_take, named_and_not_own}
use Rattle.sync_types.specs.BoardActions.{after_own_part, after_part, axes_to_free, channels_started, ownership_after}
use Rattle.sync_types.specs.BoardAlarms.{alarm_of}
use Rattle.sync_types.specs.Boards.{Board, OwnedBy, among, channel_numbers, is_this, owner_of, owns, stands}
use Rattle.sync_types.specs.GoingOn.{Going, Takings, after_goes, after_taking, all_takings, axes_asked, axes_to_take, can_take, first_of, goers_at_once, going_at_once, going_of_start, going_of_taker, goings_on, next_taker, may_be_taken, ownership_after_taking, state_after_taking, takes_from_standing, takings, takings_from}
use Rattle.sync_types.specs.Turns.{after_step, goings_in_step}
use Rattle.sync_types.specs.declared.Step.{Step}

-- ---- one that takes

taken_axis : (b : Board) (c x : ℕ) → among (axes_to_take b c) x ≡ true → (after_taking b c).axis x ≡ OwnedBy c
unfolding ownership_after_taking
taken_axis b c x on = rw on refl

kept_axis : (b : Board) (c x : ℕ) → among (axes_to_take b c) x ≡ false → (after_taking b c).axis x ≡ b.axis x
unfolding ownership_after_taking
kept_axis b c x off = rw off refl

-- an axis of nobody, or of a channel that stands
abbrev can_go : Board → Option ℕ → Bool
can_go b None = true
can_go b (Some d) = stands (b.state d)

taken_can_go : (b : Board) (c x : ℕ) → can_take b c ≡ true → among (axes_to_take b c) x ≡ true → can_go b (owner_of (b.axis x)) ≡ true
taken_can_go b c x can takes =
    let parts = and_parts (among (axes_asked (b.state c)) x) (not (owns b c x)) (sym (named_and_not_own b c x) ∙ takes) in
    by_owner (takes_from_standing (b.state c)) (owner_of (b.axis x)) (may_take b c x can parts.0) parts.1
  where
    by_owner : (from_standing : Bool) (owner : Option ℕ) → may_be_taken b c from_standing owner ≡ true → not (is_this owner c) ≡ true → can_go b owner ≡ true
    by_owner from_standing None may other = refl
    by_owner from_standing (Some d) may other = elim (or_cases (d == c) (from_standing && stands (b.state d)) may) [
      | inl own ↦ no_truth (not (d == c)) other (ap not own)
      | inr taken ↦ (and_parts from_standing (stands (b.state d)) taken).1
    ]

-- who has taken runs on and keeps what it took
could_go : (b : Board) (c x : ℕ) → can_go (after_taking b c) (owner_of ((after_taking b c).axis x)) ≡ true
    → (among (axes_to_take b c) x ≡ false) × (can_go b (owner_of (b.axis x)) ≡ true)
unfolding state_after_taking
could_go b c x can = elim (cases_Bool (among (axes_to_take b c) x)) [
  | inl on ↦
      let mine : can_go (after_taking b c) (Some c) ≡ true = sym (ap (λ o. can_go (after_taking b c) (owner_of o)) (taken_axis b c x on)) ∙ can in
      absurd (runs c (eq-eqb c c refl) mine)
  | inr off ↦ (off, before (owner_of (b.axis x)) (sym (ap (λ o. can_go (after_taking b c) (owner_of o)) (kept_axis b c x off)) ∙ can))
]
  where
    runs : (d : ℕ) → (d == c) ≡ true → stands ((after_taking b c).state d) ≡ true → ⊥
    runs d here on = no_truth false (rw here at on) refl

    before : (o : Option ℕ) → can_go (after_taking b c) o ≡ true → can_go b o ≡ true
    before None on = refl
    before (Some d) on = by_test (λ s. stands s ≡ true → stands (b.state d) ≡ true) (d == c) _ _ (λ here on. no_truth false on refl) (λ other on. on) on

or_left : (p q : Bool) → p ≡ true → (p || q) ≡ true
or_left true q on = refl
or_left false q on = no_truth false on refl

or_right : (p q : Bool) → q ≡ true → (p || q) ≡ true
or_right true q on = refl
or_right false q on = on

first_listed : (p : ℕ → Bool) (xs : List ℕ) (x : ℕ) → first_of (filter p xs) ≡ Some x → among xs x ≡ true
first_listed p [] x e = let bad : ⊥ = cc in absurd bad
first_listed p (y ∷ ys) x e = elim (cases_Bool (p y)) [
  | inl on ↦ let first : Some y ≡ Some x = rw on at e in let same : y ≡ x = cc in or_left (y == x) (among ys x) (eq-eqb y x same)
  | inr off ↦ or_right (y == x) (among ys x) (first_listed p ys x (rw off at e))
]

-- ---- all that take, one after another

-- who takes an axis owns it then, and took it from nobody or from a channel that stood; what nobody takes stays as it was
record AreOwners (b : Board) (t : Takings) : Type 0 where
  pub taken : (g : Going) (x : ℕ) → IsIn g t.goings → among g.took x ≡ true → owner_of (t.board.axis x) ≡ Some g.channel
  pub kept : (x : ℕ) → ((g : Going) → IsIn g t.goings → among g.took x ≡ true → ⊥) → owner_of (t.board.axis x) ≡ owner_of (b.axis x)
  pub from : (g : Going) (x : ℕ) → IsIn g t.goings → among g.took x ≡ true → can_go b (owner_of (b.axis x)) ≡ true
  pub listed : (g : Going) → IsIn g t.goings → among channel_numbers g.channel ≡ true

none_takes : (b : Board) → AreOwners b (record { goings = []; board = b })
none_takes b = record { taken = λ g x inside on. absurd inside; kept = λ x none. refl; from = λ g x inside on. absurd inside; listed = λ g inside. absurd inside }

false_by : (t : Bool) → (t ≡ true → ⊥) → t ≡ false
false_by true bad = absurd (bad refl)
false_by false bad = refl

one_takes : (b : Board) (c : ℕ) (t : Takings) → next_taker b ≡ Some c → AreOwners (after_taking b c) t → AreOwners b (record { goings = going_of_taker b c ∷ t.goings; board = t.board })
one_takes b c t is rest = record {
  taken = λ g x inside on. elim inside [
    | inl here ↦
        let mine : among (axes_to_take b c) x ≡ true = subst (λ (h : Going). among h.took x ≡ true) here on in
        rest.kept x (λ h there took. no_truth (among (axes_to_take b c) x) mine (could_go b c x (rest.from h x there took)).0)
        ∙ (ap owner_of (taken_axis b c x mine) ∙ ap (λ (h : Going). Some h.channel) (sym here))
    | inr there ↦ rest.taken g x there on
  ];
  kept = λ x none.
      rest.kept x (λ h there took. none h (inr there) took)
      ∙ ap owner_of (kept_axis b c x (false_by (among (axes_to_take b c) x) (λ on. none (going_of_taker b c) (inl refl) on)));
  from = λ g x inside on. elim inside [
    | inl here ↦ taken_can_go b c x (first_passes (can_take b) channel_numbers c is) (subst (λ (h : Going). among h.took x ≡ true) here on)
    | inr there ↦ (could_go b c x (rest.from g x there on)).1
  ];
  listed = λ g inside. elim inside [
    | inl here ↦ subst (λ (h : Going). among channel_numbers h.channel ≡ true) (sym here) (first_listed (can_take b) channel_numbers c is)
    | inr there ↦ rest.listed g there
  ];
}

all_take : (n : ℕ) (b : Board) → AreOwners b (takings n b)
all_take zero b = none_takes b
all_take (suc n) b = from (λ c. all_take n (after_taking b c)) (next_taker b) refl
  where
    from : ((c : ℕ) → AreOwners (after_taking b c) (takings n (after_taking b c))) → (o : Option ℕ) → next_taker b ≡ o → AreOwners b (takings_from (takings n) b o)
    from rest None e = none_takes b
    from rest (Some c) e = one_takes b c (takings n (after_taking b c)) e (rest c)

-- ---- a whole step

in_either : {A : Type 0} (a : A) (xs ys : List A) → IsIn a (xs ++ ys) → IsIn a xs ⊎ IsIn a ys
in_either a [] ys inside = inr inside
in_either a (x ∷ xs) ys inside = elim inside [
  | inl here ↦ inl (inl here)
  | inr there ↦ elim (in_either a xs ys there) [ inl one ↦ inl (inr one) | inr two ↦ inr two ]
]

in_right : {A : Type 0} (a : A) (xs ys : List A) → IsIn a ys → IsIn a (xs ++ ys)
in_right a [] ys inside = inside
in_right a (x ∷ xs) ys inside = inr (in_right a xs ys inside)

-- those that take nothing
take_nothing : (f : ℕ → Going) → ((c : ℕ) → (f c).took ≡ []) → (cs : List ℕ) (g : Going) (x : ℕ) → IsIn g (map f cs) → among g.took x ≡ true → ⊥
take_nothing f none [] g x inside on = inside
take_nothing f none (c ∷ cs) g x inside on = elim inside [
  | inl here ↦ no_truth (among g.took x) on (ap (λ (h : Going). among h.took x) here ∙ ap (λ (xs : List ℕ). among xs x) (none c))
  | inr there ↦ take_nothing f none cs g x there on
]

among_takers : (b : Board) (starts : List ℕ) (g : Going) (x : ℕ) → IsIn g (goings_on b starts) → among g.took x ≡ true → IsIn g (all_takings (after_goes b)).goings
among_takers b starts g x inside on =
    elim (in_either g (map (going_of_start b) starts) (map (going_at_once b) (goers_at_once b) ++ (all_takings (after_goes b)).goings) inside) [
      | inl started ↦ absurd (take_nothing (going_of_start b) (λ c. refl) starts g x started on)
      | inr others ↦ elim (in_either g (map (going_at_once b) (goers_at_once b)) (all_takings (after_goes b)).goings others) [
        | inl at_once ↦ absurd (take_nothing (going_at_once b) (λ c. refl) (goers_at_once b) g x at_once on)
        | inr takes ↦ takes
      ]
    ]

among_goings : (b : Board) (starts : List ℕ) (g : Going) → IsIn g (all_takings (after_goes b)).goings → IsIn g (goings_on b starts)
among_goings b starts g takes =
    in_right g (map (going_of_start b) starts) (map (going_at_once b) (goers_at_once b) ++ (all_takings (after_goes b)).goings)
    (in_right g (map (going_at_once b) (goers_at_once b)) (all_takings (after_goes b)).goings takes)

-- who takes an axis in a step owns it after the step, and is one of the channels
pub taken_in_step : (b : Board) (c : ℕ) (step : Step) (g : Going) (x : ℕ) → IsIn g (goings_in_step b c step) → among g.took x ≡ true
    → (owner_of ((after_step b c step).axis x) ≡ Some g.channel) × (among channel_numbers g.channel ≡ true)
taken_in_step b c step g x inside on =
    let own = after_own_part b c step in
    let takes = among_takers (after_own_part b c step) (channels_started (alarm_of b c step.action) step.action) g x inside on in
    let all = all_take CHANNEL_LIMIT (after_goes (after_own_part b c step)) in
    (all.taken g x takes on, all.listed g takes)

-- what nobody takes is after the step as after the channel's own part
pub kept_in_step : (b : Board) (c : ℕ) (step : Step) (x : ℕ) → ((g : Going) → IsIn g (goings_in_step b c step) → among g.took x ≡ true → ⊥)
    → owner_of ((after_step b c step).axis x) ≡ owner_of ((after_own_part b c step).axis x)
kept_in_step b c step x none =
    (all_take CHANNEL_LIMIT (after_goes (after_own_part b c step))).kept x (λ g takes on. none g (among_goings (after_own_part b c step) (channels_started (alarm_of b c step.action) step.action) g takes) on)

-- what a channel lets go is free after its own part
pub freed_in_step : (b : Board) (c : ℕ) (step : Step) (x : ℕ) → owner_of ((after_own_part b c step).axis x) ≡ (if among (axes_freed (alarm_of b c step.action) step.action) x then None else owner_of (b.axis x))
unfolding ownership_after
freed_in_step b c step x = by (alarm_of b c step.action)
  where
    by : (alarm : Option ℕ) → owner_of ((after_part b c step alarm).axis x) ≡ (if among (axes_freed alarm step.action) x then None else owner_of (b.axis x))
    by (Some code) = refl
    by None = elim (cases_Bool (among (axes_to_free step.action) x)) [
      | inl on ↦ rw on refl
      | inr off ↦ rw off refl
    ]

-- the numbers of channels
in_numbers : (n a c : ℕ) → among (range_with_len a n) c ≡ true → (a ≤ c) × (c < a + n)
in_numbers zero a c on = no_truth false on refl
in_numbers (suc n) a c on = elim (or_cases (a == c) (among (range_with_len (a + 1) n) c) on) [
  | inl here ↦ let e : a ≡ c = eqb-true a c here in (omega arith, omega arith)
  | inr later ↦ let w = in_numbers n (a + 1) c later in (omega (arith, w.0), omega (arith, w.1))
]

pub channel_within : (c : ℕ) → among channel_numbers c ≡ true → (1 ≤ c) × (c < CHANNEL_PLACES)
channel_within c on = let w = in_numbers CHANNEL_LIMIT 1 c on in (w.0, omega (arith, w.1))
