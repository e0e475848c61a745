-- Sums over the views of all seats.
use Rattle.std.proofs.Common.{List, ap, arith, length, map, refl, set, suc, sym, zero, ℕ, ◌≡◌, ◌≢◌, ◌+◌, ◌≤◌, [], ◌∷◌, ◌++◌}
use Rattle.ticket_board.specs.Rule.{Every, total}
use lib.ListN.{get_elem?}
use mathlib.Core.Option.{some, some-injective, some-ne-none}

module _ {X : Type 0} where
  pub total_append : (f : X → ℕ) (l m : List X) → total f (l ++ m) ≡ total f l + total f m
  total_append f [] m = omega arith
  total_append f (x ∷ xs) m = let e = total_append f xs m in omega (arith, e)

  pub total_set : (f : X → ℕ) (l : List X) (i : ℕ) (v w : X) → get_elem? l i ≡ some v → total f (set l i w) + f v ≡ total f l + f w
  total_set f [] i v w e = absurd (some-ne-none v (sym e))
  total_set f (x ∷ xs) zero v w e = let same : f x ≡ f v = ap f (some-injective x v e) in omega arith
  total_set f (x ∷ xs) (suc i) v w e = let h = total_set f xs i v w e in omega (arith, h)

  pub total_at : (f : X → ℕ) (l : List X) (i : ℕ) (v : X) → get_elem? l i ≡ some v → f v ≤ total f l
  total_at f [] i v e = absurd (some-ne-none v (sym e))
  total_at f (x ∷ xs) zero v e = let same : f x ≡ f v = ap f (some-injective x v e) in omega arith
  total_at f (x ∷ xs) (suc i) v e = let h = total_at f xs i v e in omega (arith, h)

  -- two seats together
  pub total_two : (f : X → ℕ) (l : List X) (i j : ℕ) (v w : X) → j ≢ i → get_elem? l i ≡ some v → get_elem? l j ≡ some w → f v + f w ≤ total f l
  total_two f [] i j v w ne e h = absurd (some-ne-none v (sym e))
  total_two f (x ∷ xs) zero zero v w ne e h = absurd (ne refl)
  total_two f (x ∷ xs) zero (suc j) v w ne e h = let same : f x ≡ f v = ap f (some-injective x v e) in let m = total_at f xs j w h in omega (arith, m)
  total_two f (x ∷ xs) (suc i) zero v w ne e h = let same : f x ≡ f w = ap f (some-injective x w h) in let m = total_at f xs i v e in omega (arith, m)
  total_two f (x ∷ xs) (suc i) (suc j) v w ne e h = let m = total_two f xs i j v w (λ s. ne (ap suc s)) e h in omega (arith, m)

  pub total_le : (f g : X → ℕ) (l : List X) → ((i : ℕ) (v : X) → get_elem? l i ≡ some v → f v ≤ g v) → total f l ≤ total g l
  total_le f g [] le = omega arith
  total_le f g (x ∷ xs) le = let a = le zero x refl in let b = total_le f g xs (λ i v e. le (suc i) v e) in omega (arith, a, b)

  -- a seat that changes, with the same number of it
  pub total_same : (f : X → ℕ) (l : List X) (i : ℕ) (v w : X) → get_elem? l i ≡ some v → f w ≡ f v → total f (set l i w) ≡ total f l
  total_same f l i v w e is = let h = total_set f l i v w e in omega (arith, h)

  pub every_append : (P : X → Type 0) (l m : List X) → Every P l → Every P m → Every P (l ++ m)
  every_append P [] m a b = b
  every_append P (x ∷ xs) m a b = (a.0, every_append P xs m a.1 b)

  pub every_map : {Y : Type 0} (P : X → Type 0) (Q : Y → Type 0) (f : X → Y) (l : List X) → ((x : X) → P x → Q (f x)) → Every P l → Every Q (map f l)
  every_map P Q f [] h e = tt
  every_map P Q f (x ∷ xs) h e = (h x e.0, every_map P Q f xs h e.1)

  pub every_imp : (P Q : X → Type 0) (l : List X) → ((x : X) → P x → Q x) → Every P l → Every Q l
  every_imp P Q [] h e = tt
  every_imp P Q (x ∷ xs) h e = (h x e.0, every_imp P Q xs h e.1)

  pub every_always : (P : X → Type 0) (l : List X) → ((x : X) → P x) → Every P l
  every_always P [] h = tt
  every_always P (x ∷ xs) h = (h x, every_always P xs h)

  pub total_map : {Y : Type 0} (f : Y → ℕ) (g : X → ℕ) (h : X → Y) (l : List X) → ((x : X) → f (h x) ≡ g x) → total f (map h l) ≡ total g l
  total_map f g h [] same = refl
  total_map f g h (x ∷ xs) same = let a = same x in let b = total_map f g h xs same in omega (arith, a, b)

  pub length_map : {Y : Type 0} (h : X → Y) (l : List X) → length (map h l) ≡ length l
  length_map h [] = refl
  length_map h (x ∷ xs) = ap suc (length_map h xs)

  pub total_cut : (f : X → ℕ) (l : List X) (i : ℕ) (v left right : X) → get_elem? l i ≡ some v → f left + f right ≡ f v → total f (set l i left ++ right ∷ []) ≡ total f l
  total_cut f l i v left right at e = let a = total_append f (set l i left) (right ∷ []) in let b = total_set f l i v left at in omega (arith, a, b, e)

  pub total_glue : (f : X → ℕ) (l : List X) (i j : ℕ) (v w both spent : X) → get_elem? l i ≡ some v → get_elem? (set l i both) j ≡ some w → f both + f spent ≡ f v + f w → total f (set (set l i both) j spent) ≡ total f l
  total_glue f l i j v w both spent at there e = let a = total_set f l i v both at in let b = total_set f (set l i both) j w spent there in omega (arith, a, b, e)

  -- where one is never more than the other, neither is what the other seats have of it
  pub total_rest : (f g : X → ℕ) (l : List X) (i : ℕ) (v : X) → ((x : X) → f x ≤ g x) → get_elem? l i ≡ some v → total f l + g v ≤ f v + total g l
  total_rest f g [] i v le e = absurd (some-ne-none v (sym e))
  total_rest f g (x ∷ xs) zero v le e = let a : f x ≡ f v = ap f (some-injective x v e) in let b : g x ≡ g v = ap g (some-injective x v e) in let c = total_le f g xs (λ i w _. le w) in omega (arith, a, b, c)
  total_rest f g (x ∷ xs) (suc i) v le e = let a = total_rest f g xs i v le e in let b = le x in omega (arith, a, b)
