-- Laws of the natural numbers that std lacks: squares and quotients.
use Rattle.std.proofs.Common.{◌≡◌, ◌+◌, ◌*◌, ◌/◌, ◌≤◌, ◌<◌, ◌⊎◌, ℕ, inl, inr, arith}
use Rattle.std.proofs.Math.Nat.{mul-le-mul_right}

pub le_or_lt : (a b : ℕ) → (a ≤ b) ⊎ (b < a)
le_or_lt a b = grind arith

pub from_squares : (a b : ℕ) → a * a ≤ b * b → a ≤ b
from_squares a b h = grind arith

pub square_above : (n : ℕ) → n ≤ n * n
square_above n = grind arith

-- a quotient by its two bounds
pub quotient_is : (n d q : ℕ) → q * d ≤ n → n < q * d + d → n / d ≡ q
quotient_is n d q low high = at_order (le_or_lt (n / d) q) (le_or_lt q (n / d))
  where
    not_below : n / d < q → ⊥
    not_below less = let more : n / d + 1 ≤ q = omega arith in omega (arith, mul-le-mul_right d more)

    not_above : q < n / d → ⊥
    not_above less = let more : q + 1 ≤ n / d = omega arith in omega (arith, mul-le-mul_right d more)

    at_order : (n / d ≤ q) ⊎ (q < n / d) → (q ≤ n / d) ⊎ (n / d < q) → n / d ≡ q
    at_order (inl p) (inl r) = omega arith
    at_order (inl p) (inr less) = absurd (not_below less)
    at_order (inr less) r = absurd (not_above less)
