-- What holds of all arguments holds of each of them.
use Rattle.std.proofs.Common.{◌≡◌, ℕ, zero, suc, ◌<◌, List, [], ◌∷◌, map, length, get_or, All, sym, subst, arith}
use Rattle.std.proofs.lemmas.List.Elements.{All-head, All-tail}

-- it holds of the view of the first
pub first_fits : {X Y : Type 0} (P : Y → Type 0) (view : X → Y) (xs : List X) (x : X) (rest : List X) → xs ≡ x ∷ rest → All P (map view xs) → P (view x)
first_fits {X} P view xs x rest is all =
    All-head P (view x) (map view rest) (subst (λ (ys : List X). All P (map view ys)) is all)

-- and of the views of those after it
pub rest_fits : {X Y : Type 0} (P : Y → Type 0) (view : X → Y) (xs : List X) (x : X) (rest : List X) → xs ≡ x ∷ rest → All P (map view xs) → All P (map view rest)
rest_fits {X} P view xs x rest is all =
    All-tail P (view x) (map view rest) (subst (λ (ys : List X). All P (map view ys)) is all)

-- and of the view at a place
pub holds_at : {X Y : Type 0} (P : Y → Type 0) (view : X → Y) (xs : List X) (i : ℕ) (x : X) → All P (map view xs) → i < length xs → x ≡ get_or xs i x → P (view x)
holds_at P view [] i x all within is = absurd (omega arith)
holds_at P view (y ∷ ys) zero x all within is = subst (λ z. P (view z)) (sym is) (All-head P (view y) (map view ys) all)
holds_at P view (y ∷ ys) (suc i) x all within is = holds_at P view ys i x (All-tail P (view y) (map view ys) all) (omega arith) is
