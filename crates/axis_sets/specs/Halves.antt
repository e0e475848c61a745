-- Meaning. A row in two halves: what it is when they stand one after the other is again those halves.
use Rattle.std.specs.Prelude.{◌≡◌, ℕ, zero, suc, Bool, List, [], ◌∷◌, ◌++◌, length, take, drop}
use Rattle.std.proofs.Common.{arith, refl, ap}

-- the first half of a row
pub front_half : (n : ℕ) (low high : List Bool) → length low ≡ n → take n (low ++ high) ≡ low
front_half zero [] high size = refl
front_half zero (x ∷ low) high size = absurd (omega (arith, size))
front_half (suc n) [] high size = absurd (omega (arith, size))
front_half (suc n) (x ∷ low) high size = ap (λ l. x ∷ l) (front_half n low high (omega arith))

-- the second half
pub back_half : (n : ℕ) (low high : List Bool) → length low ≡ n → drop n (low ++ high) ≡ high
back_half zero [] high size = refl
back_half zero (x ∷ low) high size = absurd (omega (arith, size))
back_half (suc n) [] high size = absurd (omega (arith, size))
back_half (suc n) (x ∷ low) high size = back_half n low high (omega arith)
