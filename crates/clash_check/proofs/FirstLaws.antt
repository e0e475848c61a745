-- The first answer that a list gives.
use Rattle.std.proofs.Common.{◌≡◌, ◌∙◌, ◌==◌, ◌<◌, ◌≤◌, ◌+◌, ℕ, zero, suc, drop, get_or, ◌&&◌, Bool, true, false, cond, not, List, [], ◌∷◌, ◌++◌, map, filter, find, length, Option, None, Some, All, refl, sym, ap, arith}
use Rattle.std.proofs.lemmas.Bool.{ne_eqb}
use Rattle.std.proofs.lemmas.List.Elements.{All-head, All-tail}
use Rattle.std.proofs.lemmas.List.Folds.{find-append}
use Rattle.std.specs.List.{flat_map}
use Rattle.std.specs.Option.{option_map, option_or}
use Rattle.clash_check.specs.FirstAnswer.{first_some}

option_map-or : {X Y : Type 0} (g : X → Y) (a b : Option X) → option_map g (option_or a b) ≡ option_or (option_map g a) (option_map g b)
option_map-or g None b = refl
option_map-or g (Some x) b = refl

option_or-assoc : {X : Type 0} (a b c : Option X) → option_or (option_or a b) c ≡ option_or a (option_or b c)
option_or-assoc None b c = refl
option_or-assoc (Some x) b c = refl

pub first_some-append : {X Y : Type 0} (f : X → Option Y) (xs ys : List X) → first_some f (xs ++ ys) ≡ option_or (first_some f xs) (first_some f ys)
first_some-append f [] ys = refl
first_some-append f (x ∷ xs) ys = rw (first_some-append f xs ys) (sym (option_or-assoc (f x) (first_some f xs) (first_some f ys)))

pub first_some-map : {X Y Z : Type 0} (f : Y → Option Z) (g : X → Y) (xs : List X) → first_some f (map g xs) ≡ first_some (λ x. f (g x)) xs
first_some-map f g [] = refl
first_some-map f g (x ∷ xs) = ap (λ r. option_or (f (g x)) r) (first_some-map f g xs)

pub first_some-same : {X Y : Type 0} (f g : X → Option Y) → ((x : X) → f x ≡ g x) → (xs : List X) → first_some f xs ≡ first_some g xs
first_some-same f g same [] = refl
first_some-same f g same (x ∷ xs) = rw (same x, first_some-same f g same xs) refl

-- the same answers of all for which this holds
pub first_some-each : {X Y : Type 0} (P : X → Type 0) (f g : X → Option Y) → ((x : X) → P x → f x ≡ g x) → (xs : List X) → All P xs → first_some f xs ≡ first_some g xs
first_some-each P f g same [] all = refl
first_some-each P f g same (x ∷ xs) all = rw (same x (All-head P x xs all), first_some-each P f g same xs (All-tail P x xs all)) refl

pub first_some-none : {X Y : Type 0} (f : X → Option Y) → ((x : X) → f x ≡ None) → (xs : List X) → first_some f xs ≡ None
first_some-none f none [] = refl
first_some-none f none (x ∷ xs) = rw (none x) (first_some-none f none xs)

-- a search through the lists that elements give
pub find-flat_map : {X Y Z : Type 0} (g : Y → Z) (test : Y → Bool) (f : X → List Y) (xs : List X)
    → option_map g (find test (flat_map f xs)) ≡ first_some (λ x. option_map g (find test (f x))) xs
find-flat_map g test f [] = refl
find-flat_map g test f (x ∷ xs) =
    ap (λ r. option_map g r) (find-append test (f x) (flat_map f xs)) ∙ option_map-or g (find test (f x)) (find test (flat_map f xs))
    ∙ ap (λ r. option_or (option_map g (find test (f x))) r) (find-flat_map g test f xs)

-- a search through what is made of those that a filter keeps
pub find-made : {X Y Z : Type 0} (g : Y → Z) (test : Y → Bool) (made : X → Y) (kept : X → Bool) (xs : List X)
    → option_map g (find test (map made (filter kept xs))) ≡ first_some (λ x. cond (kept x && test (made x)) (Some (g (made x))) None) xs
find-made g test made kept [] = refl
find-made {Z = Z} g test made kept (x ∷ xs) = by_kept (kept x) (find-made g test made kept xs)
  where
    given : Option Z
    given = option_map g (find test (map made (filter kept xs)))

    rest : Option Z
    rest = first_some (λ x. cond (kept x && test (made x)) (Some (g (made x))) None) xs

    by_test : (t : Bool) → given ≡ rest → option_map g (cond t (Some (made x)) (find test (map made (filter kept xs)))) ≡ option_or (cond t (Some (g (made x))) None) rest
    by_test true same = refl
    by_test false same = same

    by_kept : (k : Bool) → given ≡ rest → option_map g (find test (map made (cond k (x ∷ filter kept xs) (filter kept xs)))) ≡ option_or (cond (k && test (made x)) (Some (g (made x))) None) rest
    by_kept true same = by_test (test (made x)) same
    by_kept false same = same

-- of the elements that a filter keeps
pub first_some-filter : {X Y : Type 0} (f : X → Option Y) (test : X → Bool) (xs : List X) → first_some f (filter test xs) ≡ first_some (λ x. cond (test x) (f x) None) xs
first_some-filter f test [] = refl
first_some-filter f test (x ∷ xs) = by_test (test x) (first_some-filter f test xs)
  where
    by_test : (b : Bool) → first_some f (filter test xs) ≡ first_some (λ x. cond (test x) (f x) None) xs
        → first_some f (cond b (x ∷ filter test xs) (filter test xs)) ≡ option_or (cond b (f x) None) (first_some (λ x. cond (test x) (f x) None) xs)
    by_test true rest = ap (λ r. option_or (f x) r) rest
    by_test false rest = rest

-- where an empty list gives no answer, it may be looked at first
pub unless_empty : {X Y : Type 0} (xs : List X) (r : Option Y) → (xs ≡ [] → r ≡ None) → cond (length xs == 0) None r ≡ r
unless_empty [] r none = sym (none refl)
unless_empty (x ∷ xs) r none = let some : (length (x ∷ xs) == 0) ≡ false = ne_eqb (length (x ∷ xs)) 0 (λ e. omega arith) in rw some refl

pub unless : {Y : Type 0} (b : Bool) (r s : Option Y) → r ≡ s → cond (not b) r None ≡ cond b None s
unless true r s e = refl
unless false r s e = e

-- the answer of one, or the first of the rest
drop_one : {X Y : Type 0} (f : X → Option Y) (xs : List X) (i : ℕ) (x : X) → i < length xs → x ≡ get_or xs i x → first_some f (drop i xs) ≡ option_or (f x) (first_some f (drop (suc i) xs))
drop_one f [] i x within is = absurd (omega arith)
drop_one f (y ∷ ys) zero x within is = rw is refl
drop_one f (y ∷ ys) (suc i) x within is = drop_one f ys i x (omega arith) is

pub first_some-drop_more : {X Y : Type 0} (f : X → Option Y) (xs : List X) (i : ℕ) (x : X) → i < length xs → x ≡ get_or xs i x → first_some f (drop i xs) ≡ option_or (f x) (first_some f (drop (i + 1) xs))
first_some-drop_more f xs i x within is =
    let next : suc i ≡ i + 1 = omega arith in drop_one f xs i x within is ∙ ap (λ (k : ℕ). option_or (f x) (first_some f (drop k xs))) next

-- elements that give no answer may be passed over
pub first_some-past : {X Y : Type 0} (f : X → Option Y) (xs : List X) (from upto : ℕ) → from ≤ upto → ((k : ℕ) (d : X) → from ≤ k → k < upto → k < length xs → f (get_or xs k d) ≡ None)
    → first_some f (drop from xs) ≡ first_some f (drop upto xs)
first_some-past f [] zero zero on none = refl
first_some-past f [] zero (suc upto) on none = refl
first_some-past f [] (suc from) zero on none = refl
first_some-past f [] (suc from) (suc upto) on none = refl
first_some-past f (x ∷ xs) zero zero on none = refl
first_some-past f (x ∷ xs) zero (suc upto) on none =
    rw (none 0 x (omega arith) (omega arith) (omega arith)) (first_some-past f xs zero upto (omega arith) (λ k d low high within. none (suc k) d (omega arith) (omega arith) (omega arith)))
first_some-past f (x ∷ xs) (suc from) zero on none = absurd (omega arith)
first_some-past f (x ∷ xs) (suc from) (suc upto) on none =
    first_some-past f xs from upto (omega arith) (λ k d low high within. none (suc k) d (omega arith) (omega arith) (omega arith))
