-- Lists of which the elements match one by one.
use Rattle.std.proofs.Common.{◌≡◌, ℕ, suc, Bool, true, false, cond, if◌then◌else◌, List, [], ◌∷◌, ◌++◌, length, map, filter, flat_map, slice_get, All, Some, refl, ap, subst}
use Rattle.std.proofs.lemmas.List.Elements.{All-head, All-tail}

abbrev pub Match : {X Y : Type 0} → (X → Y → Type 0) → List X → List Y → Type 0
Match R [] [] = Unit {0}
Match R (x ∷ xs) (y ∷ ys) = R x y × Match R xs ys
Match R xs ys = ⊥

-- there are as many
pub match-length : {X Y : Type 0} (R : X → Y → Type 0) (xs : List X) (ys : List Y) → Match R xs ys → length xs ≡ length ys
match-length R [] [] m = refl
match-length R (x ∷ xs) (y ∷ ys) m = ap suc (match-length R xs ys m.1)
match-length R [] (y ∷ ys) m = absurd m
match-length R (x ∷ xs) [] m = absurd m

pub match-append : {X Y : Type 0} (R : X → Y → Type 0) (xs : List X) (ys : List Y) (us : List X) (vs : List Y) → Match R xs ys → Match R us vs → Match R (xs ++ us) (ys ++ vs)
match-append R [] [] us vs m n = n
match-append R (x ∷ xs) (y ∷ ys) us vs m n = (m.0, match-append R xs ys us vs m.1 n)
match-append R [] (y ∷ ys) us vs m n = absurd m
match-append R (x ∷ xs) [] us vs m n = absurd m

pub match-map : {X Y U V : Type 0} (R : X → Y → Type 0) (S : U → V → Type 0) (f : X → U) (g : Y → V) → ((x : X) (y : Y) → R x y → S (f x) (g y))
    → (xs : List X) (ys : List Y) → Match R xs ys → Match S (map f xs) (map g ys)
match-map R S f g each [] [] m = tt
match-map R S f g each (x ∷ xs) (y ∷ ys) m = (each x y m.0, match-map R S f g each xs ys m.1)
match-map R S f g each [] (y ∷ ys) m = absurd m
match-map R S f g each (x ∷ xs) [] m = absurd m

pub match-flat_map : {X Y U V : Type 0} (R : X → Y → Type 0) (S : U → V → Type 0) (f : X → List U) (g : Y → List V) → ((x : X) (y : Y) → R x y → Match S (f x) (g y))
    → (xs : List X) (ys : List Y) → Match R xs ys → Match S (flat_map f xs) (flat_map g ys)
match-flat_map R S f g each [] [] m = tt
match-flat_map R S f g each (x ∷ xs) (y ∷ ys) m =
    match-append S (f x) (g y) (flat_map f xs) (flat_map g ys) (each x y m.0) (match-flat_map R S f g each xs ys m.1)
match-flat_map R S f g each [] (y ∷ ys) m = absurd m
match-flat_map R S f g each (x ∷ xs) [] m = absurd m

-- where tests agree
either_way : {X Y : Type 0} (R : X → Y → Type 0) (b c : Bool) (x : X) (y : Y) (xs : List X) (ys : List Y) → b ≡ c → R x y → Match R xs ys
    → Match R (cond b (x ∷ xs) xs) (cond c (y ∷ ys) ys)
either_way R true true x y xs ys same r m = (r, m)
either_way R false false x y xs ys same r m = m
either_way R true false x y xs ys same r m = absurd cc
either_way R false true x y xs ys same r m = absurd cc

pub match-filter : {X Y : Type 0} (R : X → Y → Type 0) (p : X → Bool) (q : Y → Bool) → ((x : X) (y : Y) → R x y → p x ≡ q y)
    → (xs : List X) (ys : List Y) → Match R xs ys → Match R (filter p xs) (filter q ys)
match-filter R p q agree [] [] m = tt
match-filter R p q agree (x ∷ xs) (y ∷ ys) m =
    either_way R (p x) (q y) x y (filter p xs) (filter q ys) (agree x y m.0) m.0 (match-filter R p q agree xs ys m.1)
match-filter R p q agree [] (y ∷ ys) m = absurd m
match-filter R p q agree (x ∷ xs) [] m = absurd m

pub match-if : {X Y : Type 0} (R : X → Y → Type 0) (b c : Bool) (xs : List X) (ys : List Y) → b ≡ c → Match R xs ys
    → Match R (if b then xs else []) (if c then ys else [])
match-if R true true xs ys same m = m
match-if R false false xs ys same m = tt
match-if R true false xs ys same m = absurd cc
match-if R false true xs ys same m = absurd cc

-- what is so of the elements of each place
pub match-places : {X Y : Type 0} (R S : X → Y → Type 0) (xs : List X) (ys : List Y)
    → ((k : ℕ) (x : X) (y : Y) → slice_get xs k ≡ Some x → slice_get ys k ≡ Some y → R x y → S x y) → Match R xs ys → Match S xs ys
match-places R S [] [] each m = tt
match-places R S (x ∷ xs) (y ∷ ys) each m = (each 0 x y refl refl m.0, match-places R S xs ys (λ k u v a b r. each (suc k) u v a b r) m.1)
match-places R S [] (y ∷ ys) each m = absurd m
match-places R S (x ∷ xs) [] each m = absurd m

-- a list matches itself
pub match-own : {X : Type 0} (P : X → Type 0) (xs ys : List X) → xs ≡ ys → All P xs → Match (λ x y. (x ≡ y) × P x) xs ys
match-own {X} P xs ys same all = subst (λ (zs : List X). Match (λ x y. (x ≡ y) × P x) xs zs) same (own xs all)
  where
    own : (xs : List X) → All P xs → Match (λ x y. (x ≡ y) × P x) xs xs
    own [] all = tt
    own (x ∷ xs) all = ((refl, All-head P x xs all), own xs (All-tail P x xs all))
