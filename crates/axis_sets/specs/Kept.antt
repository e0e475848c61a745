-- Meaning. Positions as they are kept: which axes have one, and a number for each axis, 0 where it has none.
use Rattle.std.specs.Prelude.{◌≡◌, ℕ, suc, ℤ, pos, Bool, true, false, cond, List, [], ◌∷◌, length, map, slice_index_or, Option, Some, None, is_some, unwrap_or}
use Rattle.std.proofs.Common.{arith, refl, sym, ap, ◌∙◌}
use Rattle.axis_sets.specs.Sets.{has}
use Rattle.axis_sets.specs.declared.limits.TheConstants.{AXIS_LIMIT}

-- the number of each axis that has a position, and none for the others
unfoldable pub where_known : List Bool → List ℤ → List (Option ℤ)
where_known [] at = []
where_known (known ∷ more) [] = []
where_known (known ∷ more) (x ∷ at) = cond known (Some x) None ∷ where_known more at

-- there is a number for each axis, and it is 0 where the axis has no position
pub record IsKept (known : List Bool) (at : List ℤ) : Type 0 where
  pub size : length known ≡ length at
  pub axes : length at ≡ AXIS_LIMIT
  pub zero_elsewhere : (axis : ℕ) → has known axis ≡ false → slice_index_or at axis (pos 0) ≡ pos 0

-- which axes have a position
unfoldable pub known_in : List (Option ℤ) → List Bool
known_in = map is_some

-- their numbers, and 0 for the others
unfoldable pub numbers_in : List (Option ℤ) → List ℤ
numbers_in = map (λ p. unwrap_or p (pos 0))

-- what is kept is what the positions say
pub known_in-where_known : (known : List Bool) (at : List ℤ) → length known ≡ length at → known_in (where_known known at) ≡ known
unfolding where_known known_in
known_in-where_known [] at size = refl
known_in-where_known (known ∷ more) [] size = absurd (grind (arith, size))
known_in-where_known (true ∷ more) (x ∷ at) size = ap (λ l. true ∷ l) (known_in-where_known more at (omega arith))
known_in-where_known (false ∷ more) (x ∷ at) size = ap (λ l. false ∷ l) (known_in-where_known more at (omega arith))

pub numbers_in-where_known : (known : List Bool) (at : List ℤ) → length known ≡ length at
    → ((axis : ℕ) → has known axis ≡ false → slice_index_or at axis (pos 0) ≡ pos 0) → numbers_in (where_known known at) ≡ at
unfolding where_known numbers_in
numbers_in-where_known [] [] size zeros = refl
numbers_in-where_known [] (x ∷ at) size zeros = absurd (grind (arith, size))
numbers_in-where_known (known ∷ more) [] size zeros = absurd (grind (arith, size))
numbers_in-where_known (true ∷ more) (x ∷ at) size zeros = ap (λ l. x ∷ l) (numbers_in-where_known more at (omega arith) (λ axis. zeros (suc axis)))
numbers_in-where_known (false ∷ more) (x ∷ at) size zeros =
    ap (λ l. pos 0 ∷ l) (numbers_in-where_known more at (omega arith) (λ axis. zeros (suc axis)))
    ∙ ap (λ y. y ∷ at) (sym (zeros 0 refl))
