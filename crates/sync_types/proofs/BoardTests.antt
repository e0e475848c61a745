-- What tests on lists and on boards say.
use Rattle.std.proofs.Common.{true≢false, eqb-true, eq-eqb, ◌≡◌, ℕ, ◌==◌, ◌&&◌, ◌||◌, not, Bool, true, false, cond, inl, inr, List, [], ◌∷◌, Option, Some, None, filter, find, refl, sym, ap, ◌∙◌}
use Rattle.std.proofs.lemmas.Bool.{cases_Bool, and_parts, or_cases, false_from_ne_true}
use Rattle.std.specs.List.{list_any, list_all}
use Rattle.std.specs.Option.{option_map_or}
use Rattle.axis_sets.specs.Sets.{has, members_of}
use Rattle.axis_sets.proofs.SetLaws.{list_any-members_of}
use Rattle.sync_types.specs.Boards.{among}
use Rattle.sync_types.specs.BoardAlarms.{is_whole}
use Rattle.sync_types.specs.GoingOn.{first_of}

pub no_truth : {A : Type 0} (b : Bool) → b ≡ true → b ≡ false → A
no_truth true on off = absurd (true≢false off)
no_truth false on off = absurd (true≢false (sym on))

-- what all pass, each passes
pub passes : (p : ℕ → Bool) (xs : List ℕ) (x : ℕ) → list_all p xs ≡ true → among xs x ≡ true → p x ≡ true
passes p [] x all in_it = no_truth false in_it refl
passes p (y ∷ ys) x all in_it =
    let parts = and_parts (p y) (list_all p ys) all in
    elim (or_cases (y == x) (among ys x) in_it) [
      | inl here ↦ rw (sym (eqb-true y x here)) parts.0
      | inr later ↦ passes p ys x parts.1 later
    ]

-- what one passes, some pass
pub some_pass : (p : ℕ → Bool) (xs : List ℕ) (x : ℕ) → among xs x ≡ true → p x ≡ true → list_any p xs ≡ true
some_pass p [] x in_it on = no_truth false in_it refl
some_pass p (y ∷ ys) x in_it on = elim (or_cases (y == x) (among ys x) in_it) [
  | inl here ↦ or_first (p y) (list_any p ys) (rw (eqb-true y x here) on)
  | inr later ↦ or_second (p y) (list_any p ys) (some_pass p ys x later on)
]
  where
    or_first : (a b : Bool) → a ≡ true → (a || b) ≡ true
    or_first true b on = refl
    or_first false b on = no_truth false on refl

    or_second : (a b : Bool) → b ≡ true → (a || b) ≡ true
    or_second true b on = refl
    or_second false b on = on

-- what none passes
pub none_pass : (p : ℕ → Bool) (xs : List ℕ) → ((x : ℕ) → among xs x ≡ true → p x ≡ false) → list_any p xs ≡ false
none_pass p [] none = refl
none_pass p (y ∷ ys) none =
    rw (none y (or_here (y == y) (among ys y) (eq-eqb y y refl)), none_pass p ys (λ x on. none x (or_there (y == x) (among ys x) on))) refl
  where
    or_here : (a b : Bool) → a ≡ true → (a || b) ≡ true
    or_here true b on = refl
    or_here false b on = no_truth false on refl

    or_there : (a b : Bool) → b ≡ true → (a || b) ≡ true
    or_there true b on = refl
    or_there false b on = on

among_cond : (a : Bool) (y x : ℕ) (rest : List ℕ) → among (cond a (y ∷ rest) rest) x ≡ ((a && (y == x)) || among rest x)
among_cond true y x rest = refl
among_cond false y x rest = refl

-- the numbers of a list that pass
pub among_kept : (p : ℕ → Bool) (xs : List ℕ) (x : ℕ) → among (filter p xs) x ≡ (among xs x && p x)
among_kept p [] x = refl
among_kept p (y ∷ ys) x = elim (cases_Bool (y == x)) [
  | inl here ↦ among_cond (p y) y x (filter p ys) ∙ rw (here, among_kept p ys x, ap p (eqb-true y x here)) (once (p x) (among ys x))
  | inr other ↦ among_cond (p y) y x (filter p ys) ∙ rw (other, among_kept p ys x) (never (p y) (among ys x && p x))
]
  where
    once : (a b : Bool) → ((a && true) || (b && a)) ≡ a
    once true b = refl
    once false true = refl
    once false false = refl

    never : (a r : Bool) → ((a && false) || r) ≡ r
    never true r = refl
    never false r = refl

-- of numbers that are in the list alike, one is in it where some are
pub some_alike : (p : ℕ → Bool) (xs : List ℕ) (x : ℕ) → p x ≡ true → ((y : ℕ) → p y ≡ true → among xs y ≡ among xs x) → list_any p xs ≡ among xs x
some_alike p xs x on alike = elim (cases_Bool (among xs x)) [
  | inl in_it ↦ some_pass p xs x in_it on ∙ sym in_it
  | inr out ↦ none_pass p xs (λ y listed. false_from_ne_true (p y) (λ passes_y. no_truth (among xs y) listed (alike y passes_y ∙ out))) ∙ sym out
]

-- a set that has all or none of the members of another has them alike
pub whole_alike : (axes zone : List Bool) (x y : ℕ) → is_whole axes zone ≡ true → has zone x ≡ true → has zone y ≡ true → has axes x ≡ has axes y
whole_alike axes zone x y whole on_x on_y = elim (or_cases (list_all (has axes) (members_of zone)) (list_all (λ x. not (has axes x)) (members_of zone)) whole) [
  | inl all ↦ passes (has axes) (members_of zone) x all (list_any-members_of zone x ∙ on_x) ∙ sym (passes (has axes) (members_of zone) y all (list_any-members_of zone y ∙ on_y))
  | inr none ↦ off (has axes x) (passes (λ x. not (has axes x)) (members_of zone) x none (list_any-members_of zone x ∙ on_x)) ∙ sym (off (has axes y) (passes (λ x. not (has axes x)) (members_of zone) y none (list_any-members_of zone y ∙ on_y)))
]
  where
    off : (b : Bool) → not b ≡ true → b ≡ false
    off true on = sym on
    off false on = refl

-- what is so of all lines is so of the axes of the zone of one number
pub whole_found : (axes : List Bool) (lines : List (ℕ × List Bool × Option ℕ × Bool)) (z : ℕ) → list_all (λ line. is_whole axes line.1) lines ≡ true
    → is_whole axes (option_map_or (λ line. line.1) (find (λ line. line.0 == z) lines) []) ≡ true
whole_found axes [] z all = refl
whole_found axes (line ∷ lines) z all =
    let parts = and_parts (is_whole axes line.1) (list_all (λ line. is_whole axes line.1) lines) all in
    elim (cases_Bool (line.0 == z)) [
      | inl here ↦ rw here parts.0
      | inr other ↦ rw other (whole_found axes lines z parts.1)
    ]

-- a test in a row of tests that gives none has not come
pub not_so : (test : Bool) (code : ℕ) (rest : Option ℕ) → cond test (Some code) rest ≡ None → (test ≡ false) × (rest ≡ None)
not_so true code rest none = absurd (some_not_none code none)
  where
    some_not_none : (n : ℕ) → Some n ≡ None → ⊥
    some_not_none n e = cc
not_so false code rest none = (refl, none)

-- a choice by a test
pub by_test : {A : Type 0} (P : A → Type 0) (test : Bool) (a b : A) → (test ≡ true → P a) → (test ≡ false → P b) → P (cond test a b)
by_test P true a b yes_it no_it = yes_it refl
by_test P false a b yes_it no_it = no_it refl

pub not_not : (b : Bool) → not b ≡ false → b ≡ true
not_not true off = refl
not_not false off = no_truth true refl off

-- the first of those that pass passes
pub first_passes : (p : ℕ → Bool) (xs : List ℕ) (x : ℕ) → first_of (filter p xs) ≡ Some x → p x ≡ true
first_passes p [] x e = absurd (none_not_some x e)
  where
    none_not_some : (n : ℕ) → None ≡ Some n → ⊥
    none_not_some n bad = cc
first_passes p (y ∷ ys) x e = elim (cases_Bool (p y)) [
  | inl on ↦
      let first : Some y ≡ Some x = rw on at e in
      let same : y ≡ x = cc in
      rw (sym same) on
  | inr off ↦ first_passes p ys x (rw off at e)
]

-- what no line is, is not found
pub not_found : (p : ℕ × Option ℕ × Bool → Bool) (lines : List (ℕ × Option ℕ × Bool)) → list_any p lines ≡ false → option_map_or (λ line. line.2) (find p lines) false ≡ false
not_found p [] none = refl
not_found p (line ∷ lines) none = elim (cases_Bool (p line)) [
  | inl here ↦ no_truth (p line || list_any p lines) (rw here refl) none
  | inr other ↦ rw other (not_found p lines (rw other at none))
]
