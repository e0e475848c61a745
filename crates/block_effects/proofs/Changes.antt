-- A change that is taken back.
use Rattle.std.proofs.Common.{◌≡◌, ℕ, zero, suc, List, [], ◌∷◌, refl, ap}
use Rattle.std.specs.Prelude.{slice_index_or, slice_set}

-- what stood at a place is put back there
pub set_back : {X : Type 0} (xs : List X) (place : ℕ) (new d : X) → slice_set (slice_set xs place new) place (slice_index_or xs place d) ≡ xs
set_back [] zero new d = refl
set_back [] (suc k) new d = refl
set_back (x ∷ xs) zero new d = refl
set_back (x ∷ xs) (suc k) new d = ap (λ (ys : List _). x ∷ ys) (set_back xs k new d)
