-- Rows of which some are left out, and what is made of each element.
use Rattle.std.proofs.Common.{◌≡◌, ◌∙◌, ℕ, ◌+◌, ◌<◌, ◌≤◌, not, Bool, true, false, List, [], ◌∷◌, ◌++◌, length, take, drop, get_or, filter, flat_map, Option, None, Some, refl, ap, sym, append-nil, append_assoc, add-one, zero-add, arith}
use Rattle.std.proofs.lemmas.Grind.{flat_map-append}
use Rattle.std.proofs.lemmas.List.Elements.{filter-append, filter_map-append}
use Rattle.std.proofs.lemmas.List.Filters.{length-filter_both}
use Rattle.std.proofs.lemmas.List.{take_more, take-append-drop}
use Rattle.std.proofs.lemmas.List.FromFn.{length-range_with_len, length-enumerate_from, get_or-enumerate_from}
use Rattle.std.specs.List.{enumerate_from, filter_map, last_or, range_with_len}
use Rattle.number_laws.proofs.Lists.{range_with_len-push}

-- a row of one number more
row-more : (low n next : ℕ) → low + n ≡ next → range_with_len low (n + 1) ≡ range_with_len low n ++ next ∷ []
row-more low n next e = rw add-one (range_with_len-push low n ∙ ap (λ (m : ℕ). range_with_len low n ++ m ∷ []) e)

pub filter-taken : (test : ℕ → Bool) (low n next : ℕ) → low + n ≡ next → test next ≡ true
    → filter test (range_with_len low (n + 1)) ≡ filter test (range_with_len low n) ++ next ∷ []
filter-taken test low n next e t = rw (row-more low n next e, filter-append test (range_with_len low n) (next ∷ []), t) refl

pub filter-passed : (test : ℕ → Bool) (low n next : ℕ) → low + n ≡ next → test next ≡ false
    → filter test (range_with_len low (n + 1)) ≡ filter test (range_with_len low n)
filter-passed test low n next e t = rw (row-more low n next e, filter-append test (range_with_len low n) (next ∷ []), t) (append-nil (filter test (range_with_len low n)))

-- what is made of the numbers of a row that pass a test
abbrev pub made : (ℕ → List ℕ) → (ℕ → Bool) → ℕ → ℕ → List ℕ
made f test low n = flat_map f (filter test (range_with_len low n))

made-taken : (f : ℕ → List ℕ) (test : ℕ → Bool) (low n next : ℕ) → low + n ≡ next → test next ≡ true
    → made f test low (n + 1) ≡ made f test low n ++ f next
made-taken f test low n next e t =
    ap (flat_map f) (filter-taken test low n next e t)
    ∙ flat_map-append f (filter test (range_with_len low n)) (next ∷ [])
    ∙ ap (λ (ys : List ℕ). made f test low n ++ ys) (append-nil (f next))

-- a text with what is made of the numbers so far, and of the next one, which passes the test
pub text-taken : (f : ℕ → List ℕ) (test : ℕ → Bool) (low n next : ℕ) (first before now : List ℕ) → low + n ≡ next → test next ≡ true
    → before ≡ first ++ made f test low n → now ≡ before ++ f next → now ≡ first ++ made f test low (n + 1)
text-taken f test low n next first before now e t is more =
    more ∙ ap (λ (ys : List ℕ). ys ++ f next) is ∙ append_assoc first (made f test low n) (f next)
    ∙ ap (λ (ys : List ℕ). first ++ ys) (sym (made-taken f test low n next e t))

-- the same where it does not
pub text-passed : (f : ℕ → List ℕ) (test : ℕ → Bool) (low n next : ℕ) (first before now : List ℕ) → low + n ≡ next → test next ≡ false
    → before ≡ first ++ made f test low n → now ≡ before → now ≡ first ++ made f test low (n + 1)
text-passed f test low n next first before now e t is same =
    same ∙ is ∙ ap (λ (ys : List ℕ). first ++ flat_map f ys) (sym (filter-passed test low n next e t))

-- a row has as many numbers as it has, and no more of them pass a test
pub length-filter-row : (test : ℕ → Bool) (low n : ℕ) → length (filter test (range_with_len low n)) ≤ n
length-filter-row test low n =
    let both : length (filter test (range_with_len low n)) + length (filter (λ m. not (test m)) (range_with_len low n)) ≡ length (range_with_len low n) =
    length-filter_both test (λ m. not (test m)) (λ m. refl) (range_with_len low n) in
    let size : length (range_with_len low n) ≡ n = length-range_with_len low n in
    omega (arith, both, size)

-- an element stands at a place of a list
pub record Stands {X : Type 0} (xs : List X) (place : ℕ) (x : X) : Type 0 where
  pub within : place < length xs
  pub there : get_or xs place x ≡ x

-- the elements before it, it, and those after it
take-next : {X : Type 0} (xs : List X) (place : ℕ) (x : X) → Stands xs place x → take (place + 1) xs ≡ take place xs ++ x ∷ []
take-next xs place x at = take_more xs place x at.within ∙ ap (λ (y : _). take place xs ++ y ∷ []) at.there

pub flat_map-next : {X : Type 0} (f : X → List ℕ) (xs : List X) (place : ℕ) (x : X) → Stands xs place x
    → flat_map f (take (place + 1) xs) ≡ flat_map f (take place xs) ++ f x
flat_map-next f xs place x at =
    ap (flat_map f) (take-next xs place x at) ∙ flat_map-append f (take place xs) (x ∷ []) ∙ ap (λ (ys : List ℕ). flat_map f (take place xs) ++ ys) (append-nil (f x))

pub flat_map-split : {X : Type 0} (f : X → List ℕ) (xs : List X) (place : ℕ) (x : X) → Stands xs place x
    → flat_map f xs ≡ flat_map f (take place xs) ++ (f x ++ flat_map f (drop (place + 1) xs))
flat_map-split f xs place x at =
    ap (flat_map f) (sym (take-append-drop (place + 1) xs))
    ∙ flat_map-append f (take (place + 1) xs) (drop (place + 1) xs)
    ∙ ap (λ (ys : List ℕ). ys ++ flat_map f (drop (place + 1) xs)) (flat_map-next f xs place x at)
    ∙ append_assoc (flat_map f (take place xs)) (f x) (flat_map f (drop (place + 1) xs))

-- each element stands at its place among the numbered ones
pub Stands-numbered : {X : Type 0} (xs : List X) (place : ℕ) (x : X) → place < length xs → x ≡ get_or xs place x → Stands (enumerate_from 0 xs) place (place, x)
Stands-numbered xs place x within is = record {
  within = rw length-enumerate_from within;
  there = get_or-enumerate_from 0 xs place (place, x) within ∙ ap (λ (n : ℕ). (n, get_or xs place x)) (zero-add place) ∙ ap (λ (y : _). (place, y)) (sym is);
}

last_or-push_some : {Y : Type 0} (o : Option Y) (ys : List Y) (y : Y) → last_or o (ys ++ y ∷ []) ≡ Some y
last_or-push_some o [] y = refl
last_or-push_some o (x ∷ xs) y = last_or-push_some (Some x) xs y

-- the last that a test gives of the elements so far, and of the next one
pub last-taken : {X Y : Type 0} (h : X → Option Y) (xs : List X) (place : ℕ) (x : X) (y : Y) → Stands xs place x → h x ≡ Some y
    → last_or None (filter_map h (take (place + 1) xs)) ≡ Some y
last-taken h xs place x y at gives =
    rw (take-next xs place x at, filter_map-append h (take place xs) (x ∷ []), gives) (last_or-push_some None (filter_map h (take place xs)) y)

pub last-passed : {X Y : Type 0} (h : X → Option Y) (xs : List X) (place : ℕ) (x : X) → Stands xs place x → h x ≡ None
    → last_or None (filter_map h (take (place + 1) xs)) ≡ last_or None (filter_map h (take place xs))
last-passed h xs place x at none =
    rw (take-next xs place x at, filter_map-append h (take place xs) (x ∷ []), none) (ap (last_or None) (append-nil (filter_map h (take place xs))))
