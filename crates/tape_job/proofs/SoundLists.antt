-- Tests of lists as facts, and facts of a list with one more.
use Rattle.std.proofs.Common.{◌≡◌, ◌≢◌, ◌∙◌, ℕ, zero, suc, ◌+◌, Bool, true, false, ◌&&◌, ◌||◌, not, if◌then◌else◌, ◌==◌, List, [], ◌∷◌, ◌++◌, length, slice_get, find, Option, Some, None, true≢false, length-append, refl, sym, arith}
use Rattle.std.specs.List.{All, Any, list_any}
use Rattle.std.proofs.lemmas.Bool.{eq-eqb}
use Rattle.std.proofs.lemmas.List.{get_or_append_left}
use Rattle.std.proofs.lemmas.List.Elements.{All-nil, All-cons}

-- where a chain of rules breaks none, its first test fails and the others break none
pub unbroken : {A : Type 0} (test : Bool) (code : A) (rest : Option A) → (if test then Some code else rest) ≡ None → (test ≡ false) × (rest ≡ None)
unbroken true code rest none = absurd cc
unbroken false code rest none = (refl, none)

pub not_false : (b : Bool) → not b ≡ false → b ≡ true
not_false true e = refl
not_false false e = sym e

pub or_fails : (a b : Bool) → a || b ≡ false → (a ≡ false) × (b ≡ false)
or_fails true b e = absurd cc
or_fails false b e = (refl, e)

pub and_holds : (a b : Bool) → a && b ≡ true → (a ≡ true) × (b ≡ true)
and_holds true b e = (refl, e)
and_holds false b e = absurd cc

-- a failed test of two equations
pub differs : (a b c d : ℕ) → (a == b) && (c == d) ≡ false → a ≡ b → c ≢ d
differs a b c d fails same other = true≢false (sym (rw (eq-eqb a b same, eq-eqb c d other) refl) ∙ fails)

module _ {A : Type 0} (test : A → Bool) where
  pub none_pass : (xs : List A) → list_any test xs ≡ false → All (λ x. test x ≡ false) xs
  none_pass [] none = All-nil (λ x. test x ≡ false)
  none_pass (x ∷ xs) none =
      let both = or_fails (test x) (list_any test xs) none in
      All-cons (λ y. test y ≡ false) x xs both.0 (none_pass xs both.1)

  pub none_found : (xs : List A) → find test xs ≡ None → All (λ x. test x ≡ false) xs
  none_found [] none = All-nil (λ x. test x ≡ false)
  none_found (x ∷ xs) none =
      let both = unbroken (test x) x (find test xs) none in
      All-cons (λ y. test y ≡ false) x xs both.0 (none_found xs both.1)

module _ {A : Type 0} (P : A → Type 0) where
  pub Any-here : (x : A) (xs : List A) → P x → Any P (x ∷ xs)
  Any-here x xs holds = (0, x, omega arith, refl, holds)

  pub Any-there : (x : A) (xs : List A) → Any P xs → Any P (x ∷ xs)
  Any-there x xs some = (suc some.0, some.1, omega arith, some.3, some.4)

  pub Any-more : (xs : List A) (y : A) → Any P xs → Any P (xs ++ y ∷ [])
  Any-more xs y some =
      let further : length (xs ++ y ∷ []) ≡ length xs + 1 = length-append xs (y ∷ []) in
      (some.0, some.1, omega arith, get_or_append_left xs (y ∷ []) some.1 some.0 some.2 ∙ some.3, some.4)

  -- the list that a test finds something in
  pub found : (test : A → Bool) → ((x : A) → test x ≡ true → P x) → (xs : List A) → list_any test xs ≡ true → Any P xs
  found test says [] some = absurd cc
  found test says (x ∷ xs) some = by (test x) refl some (found test says xs)
    where
      by : (b : Bool) → test x ≡ b → b || list_any test xs ≡ true → (list_any test xs ≡ true → Any P xs) → Any P (x ∷ xs)
      by true here any rest = Any-here x xs (says x here)
      by false here any rest = Any-there x xs (rest any)

-- an element of a list is there with one more after
pub slice_get-more : {A : Type 0} (xs : List A) (i : ℕ) (x y : A) → slice_get xs i ≡ Some x → slice_get (xs ++ y ∷ []) i ≡ Some x
slice_get-more [] i x y at = absurd cc
slice_get-more (z ∷ zs) zero x y at = at
slice_get-more (z ∷ zs) (suc i) x y at = slice_get-more zs i x y at
