-- Meaning. Fractions rounded down and up to whole numbers. The number under a fraction is a natural number above 0.
use Rattle.std.specs.Prelude.{ℕ, ℤ, pos, negsuc, neg_ℤ, ◌/◌}

-- the greatest whole number that is at most num / under
abbrev pub floor_div : ℤ → ℕ → ℤ
floor_div (pos num) under = pos (num / under)
floor_div (negsuc num) under = negsuc (num / under)

-- the least whole number that is at least num / under
abbrev pub ceil_div : ℤ → ℕ → ℤ
ceil_div num under = neg_ℤ (floor_div (neg_ℤ num) under)
