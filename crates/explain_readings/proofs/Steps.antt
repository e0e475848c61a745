-- Views at places.
use Rattle.std.proofs.Common.{◌≡◌, ℕ, zero, suc, ◌<◌, List, [], ◌∷◌, map, length, get_or, All, sym, subst, arith}
use Rattle.std.proofs.lemmas.List.Elements.{All-head, All-tail}

-- what holds of all views holds of the view at a place
pub holds_at : {X Y : Type 0} (P : Y → Type 0) (view : X → Y) (xs : List X) (i : ℕ) (x : X) → All P (map view xs) → i < length xs → x ≡ get_or xs i x → P (view x)
holds_at P view [] i x all within is = absurd (omega arith)
holds_at P view (y ∷ ys) zero x all within is = subst (λ z. P (view z)) (sym is) (All-head P (view y) (map view ys) all)
holds_at P view (y ∷ ys) (suc i) x all within is = holds_at P view ys i x (All-tail P (view y) (map view ys) all) (omega arith) is
