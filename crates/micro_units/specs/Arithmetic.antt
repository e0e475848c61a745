-- Meaning. The values of the operations on numbers, all of them counts of millionths.
use Rattle.std.specs.Prelude.{suc, ◌*◌, ℤ, pos, negsuc, neg_ℤ, ◌-ℤ◌, ◌*ℤ◌, ◌≤ℤ◌}
use Rattle.std.specs.Int.RustNames.{int_div, unsigned_abs}
use Rattle.micro_units.specs.Root.{floor_root}
use Rattle.micro_units.specs.Rounding.{half_away}

-- a fraction with a divisor of either sign, rounded
unfoldable pub rounded_ratio : ℤ → ℤ → ℤ
rounded_ratio n (pos d) = half_away n d
rounded_ratio n (negsuc d) = half_away (neg_ℤ n) (suc d)

unfoldable pub product : ℤ → ℤ → ℤ
product a b = half_away (a *ℤ b) 1000000

unfoldable pub quotient : ℤ → ℤ → ℤ
quotient a b = rounded_ratio (a *ℤ pos 1000000) b

-- the whole part of the quotient, towards zero
unfoldable pub whole_quotient : ℤ → ℤ → ℤ
whole_quotient a b = int_div a b *ℤ pos 1000000

-- a less b times the whole part of their quotient
unfoldable pub remainder : ℤ → ℤ → ℤ
remainder a b = a -ℤ (b *ℤ int_div a b)

-- the whole part, towards zero, and the nearest whole number
unfoldable pub whole_part : ℤ → ℤ
whole_part a = int_div a (pos 1000000) *ℤ pos 1000000

unfoldable pub nearest_whole : ℤ → ℤ
nearest_whole a = half_away a 1000000 *ℤ pos 1000000

-- the root of a number that is not below 0, rounded down
unfoldable pub square_root : ℤ → ℤ
square_root a = pos (floor_root (unsigned_abs a * 1000000))

-- no greater number has a square that is not above a
pub record IsGreatestRoot (a r : ℤ) : Type 0 where
  pub at_most : (r *ℤ r) ≤ℤ (a *ℤ pos 1000000)
  pub greatest : (s : ℤ) → (s *ℤ s) ≤ℤ (a *ℤ pos 1000000) → s ≤ℤ r
