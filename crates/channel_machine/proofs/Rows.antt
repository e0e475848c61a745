-- Rows of positions.
use Rattle.std.proofs.Common.{◌≡◌, ◌∙◌, ℕ, zero, suc, ℤ, ◌+◌, ◌<◌, ◌≤◌, nat_lt, ◌&&◌, Bool, true, cond, List, [], ◌∷◌, length, map, get_or, Option, None, Some, refl, ap, arith}
use Rattle.std.proofs.lemmas.Bool.Decides.{nat_tests}
use Rattle.std.specs.List.{range_with_len}
use Rattle.axis_sets.specs.Positions.{position_of}
use Rattle.axis_sets.specs.Sets.{has}
use Rattle.channel_machine.specs.Run.{owned_at}
use Rattle.axis_sets.specs.declared.limits.TheConstants.{AXIS_LIMIT}

-- a list is known by its length and what stands at each place
row : (f : ℕ → Option ℤ) (low n : ℕ) (xs : List (Option ℤ)) → length xs ≡ n → ((k : ℕ) → k < n → get_or xs k None ≡ f (low + k)) → xs ≡ map f (range_with_len low n)
row f low zero [] long each = refl
row f low zero (x ∷ xs) long each = absurd (omega (arith, long))
row f low (suc n) [] long each = absurd (omega (arith, long))
row f low (suc n) (x ∷ xs) long each =
    let first : low + 0 ≡ low = omega arith in
    ap (λ (y : Option ℤ). y ∷ xs) (each 0 (omega arith) ∙ ap f first)
    ∙ ap (λ (ys : List (Option ℤ)). f low ∷ ys) (row f (low + 1) n xs (omega (arith, long)) (λ k h. let next : low + suc k ≡ low + 1 + k = omega arith in each (suc k) (omega (arith, h)) ∙ ap f next))

-- all axes were looked at
pub owned_row : (axes : List Bool) (at : ℕ → ℤ) (index : ℕ) (xs : List (Option ℤ)) → AXIS_LIMIT ≤ index → length xs ≡ AXIS_LIMIT
    → ((a : ℕ) → position_of xs a ≡ cond (nat_lt a index && has axes a) (Some (at a)) None) → xs ≡ owned_at axes at
owned_row axes at index xs all long each = row (λ axis. cond (has axes axis) (Some (at axis)) None) 0 AXIS_LIMIT xs long by_place
  where
    below : (k : ℕ) → k < AXIS_LIMIT → nat_lt k index ≡ true
    below k h = grind (arith, nat_tests)

    by_place : (k : ℕ) → k < AXIS_LIMIT → get_or xs k None ≡ cond (has axes (0 + k)) (Some (at (0 + k))) None
    by_place k h =
        let here : k ≡ 0 + k = omega arith in
        each k ∙ ap (λ (b : Bool). cond (b && has axes k) (Some (at k)) None) (below k h) ∙ ap (λ (a : ℕ). cond (has axes a) (Some (at a)) None) here
