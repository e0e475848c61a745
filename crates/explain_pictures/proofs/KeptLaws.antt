-- Laws of lists of which only the beginning is kept.
use Rattle.std.proofs.Common.{◌≡◌, ◌∙◌, ℕ, zero, suc, ◌+◌, ◌<◌, List, [], ◌∷◌, ◌++◌, length, get_or, take, refl, ap, sym, append_assoc, append-nil, arith}
use Rattle.std.proofs.lemmas.Bool.Decides.{nat_tests}
use Rattle.std.proofs.lemmas.List.{length-take, map-id, take-take, take_more}
use Rattle.std.proofs.lemmas.List.FromFn.{filter_of_map_range_with_len_more, map-range_with_len_more}
use Rattle.std.proofs.lemmas.Grind.{flat_map-append}
use Rattle.std.specs.List.{filter, flat_map, range_with_len}
use Rattle.std.specs.Prelude.{Bool, true, false, cond, min, nat_lt}
use Rattle.explain_pictures.specs.Kept.{IsShortened}

-- what is added to a beginning is added to the whole
front_and : {X : Type 0} (n : ℕ) (xs more : List X) → take n (take n xs ++ more) ≡ take n (xs ++ more)
front_and zero xs more = refl
front_and (suc n) [] more = refl
front_and {X = X} (suc n) (x ∷ xs) more = ap (λ (ys : List X). x ∷ ys) (front_and n xs more)

pub alike_and : {X : Type 0} (n : ℕ) (xs ys more : List X) → take n xs ≡ take n ys → take n (xs ++ more) ≡ take n (ys ++ more)
alike_and {X = X} n xs ys more e = sym (front_and n xs more) ∙ ap (λ (zs : List X). take n (zs ++ more)) e ∙ front_and n ys more

-- one part after another
pub alike_on : {X : Type 0} (n : ℕ) (start so_far part now next : List X) → take n now ≡ take n (start ++ so_far) → take n next ≡ take n (now ++ part)
    → take n next ≡ take n (start ++ (so_far ++ part))
alike_on {X = X} n start so_far part now next e f =
    f ∙ alike_and n now (start ++ so_far) part e ∙ ap (λ (zs : List X). take n zs) (append_assoc start so_far part)

-- a part that comes before the rest
pub alike_before : {X : Type 0} (n : ℕ) (now part rest next : List X) → take n next ≡ take n (now ++ part) → take n (next ++ rest) ≡ take n (now ++ (part ++ rest))
alike_before {X = X} n now part rest next f = alike_and n next (now ++ part) rest f ∙ ap (λ (zs : List X). take n zs) (append_assoc now part rest)

-- the parts of the first items, and the next part
parts_on : {X Y : Type 0} (f : X → List Y) (xs : List X) (i : ℕ) (d : X) → i < length xs → flat_map f (take (i + 1) xs) ≡ flat_map f (take i xs) ++ f (get_or xs i d)
parts_on {X = X} {Y = Y} f xs i d h =
    ap (λ (ys : List X). flat_map f ys) (take_more xs i d h)
    ∙ flat_map-append f (take i xs) (get_or xs i d ∷ [])
    ∙ ap (λ (ys : List Y). flat_map f (take i xs) ++ ys) (append-nil (f (get_or xs i d)))

pub part_on : {X Y : Type 0} (n : ℕ) (f : X → List Y) (xs : List X) (i : ℕ) (d : X) (start now next : List Y) → i < length xs → take n now ≡ take n (start ++ flat_map f (take i xs))
    → take n next ≡ take n (now ++ f (get_or xs i d)) → take n next ≡ take n (start ++ flat_map f (take (i + 1) xs))
part_on {X = X} {Y = Y} n f xs i d start now next h e g =
    alike_on n start (flat_map f (take i xs)) (f (get_or xs i d)) now next e g ∙ ap (λ (ys : List Y). take n (start ++ ys)) (sym (parts_on f xs i d h))

-- the parts of so many numbers and of one more
pub parts_more : {X : Type 0} (f : ℕ → List X) (n : ℕ) → flat_map f (range_with_len 0 (n + 1)) ≡ flat_map f (range_with_len 0 n) ++ f n
parts_more {X = X} f n =
    ap (λ (ns : List ℕ). flat_map f ns)
    (sym (map-id (range_with_len 0 (n + 1))) ∙ map-range_with_len_more (λ (k : ℕ). k) 0 n n (omega arith) ∙ ap (λ (ns : List ℕ). ns ++ n ∷ []) (map-id (range_with_len 0 n)))
    ∙ flat_map-append f (range_with_len 0 n) (n ∷ [])
    ∙ ap (λ (xs : List X). flat_map f (range_with_len 0 n) ++ xs) (append-nil (f n))

-- the numbers from 1 on that pass a test, and the next number
passing_more : (p : ℕ → Bool) (n : ℕ) → filter p (range_with_len 1 (n + 1)) ≡ filter p (range_with_len 1 n) ++ cond (p (n + 1)) ((n + 1) ∷ []) []
passing_more p n =
    ap (λ (ns : List ℕ). filter p ns) (sym (map-id (range_with_len 1 (n + 1))))
    ∙ filter_of_map_range_with_len_more p (λ (k : ℕ). k) 1 n (n + 1) (omega arith)
    ∙ ap (λ (ns : List ℕ). filter p ns ++ cond (p (n + 1)) ((n + 1) ∷ []) []) (map-id (range_with_len 1 n))

pub passing_on : (p : ℕ → Bool) (n : ℕ) → p (n + 1) ≡ true → filter p (range_with_len 1 (n + 1)) ≡ filter p (range_with_len 1 n) ++ (n + 1) ∷ []
passing_on p n h = passing_more p n ∙ ap (λ (b : Bool). filter p (range_with_len 1 n) ++ cond b ((n + 1) ∷ []) []) h

pub passing_over : (p : ℕ → Bool) (n : ℕ) → p (n + 1) ≡ false → filter p (range_with_len 1 (n + 1)) ≡ filter p (range_with_len 1 n)
passing_over p n h =
    passing_more p n ∙ ap (λ (b : Bool). filter p (range_with_len 1 n) ++ cond b ((n + 1) ∷ []) []) h ∙ append-nil (filter p (range_with_len 1 n))

-- what holds of one item more holds of fewer
fewer_alike : {X : Type 0} (n : ℕ) (xs ys : List X) → take (n + 1) xs ≡ take (n + 1) ys → take n xs ≡ take n ys
fewer_alike {X = X} n xs ys e = sym (take-take n (n + 1) xs (omega arith)) ∙ ap (λ (zs : List X). take n zs) e ∙ take-take n (n + 1) ys (omega arith)

same_test : (n a b : ℕ) → min (n + 1) a ≡ min (n + 1) b → nat_lt n a ≡ nat_lt n b
same_test n a b e = grind (arith, nat_tests)

pub shortened_alike : {X : Type 0} (n : ℕ) (xs ys kept : List X) (more : Bool) → take (n + 1) xs ≡ take (n + 1) ys → IsShortened n xs kept more → IsShortened n ys kept more
shortened_alike {X = X} n xs ys kept more e h = record {
  front = h.front ∙ fewer_alike n xs ys e;
  rest = h.rest ∙ same_test n (length xs) (length ys) (sym (length-take (n + 1) xs) ∙ ap (λ (zs : List X). length zs) e ∙ length-take (n + 1) ys);
}
