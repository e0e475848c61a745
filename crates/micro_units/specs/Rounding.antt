-- Meaning. Rounding to whole numbers.
use Rattle.std.specs.Prelude.{◌≡◌, ℕ, suc, ◌+◌, ◌*◌, ◌/◌, ◌≤◌, ℤ, pos, negsuc, neg_ℤ, ◌-ℤ◌, ◌*ℤ◌}
use Rattle.std.specs.Int.RustNames.{unsigned_abs}

-- the whole number nearest to the fraction n / d, where d is above 0; of two equally near, the one farther from 0
unfoldable pub half_away : ℤ → ℕ → ℤ
half_away (pos n) d = pos ((2 * n + d) / (2 * d))
half_away (negsuc n) d = neg_ℤ (pos ((2 * suc n + d) / (2 * d)))

-- no whole number is nearer to n / d than q is, and none that is as near is farther from 0
pub record IsNearest (n : ℤ) (d : ℕ) (q : ℤ) : Type 0 where
  pub nearest : (m : ℤ) → unsigned_abs (n -ℤ (q *ℤ pos d)) ≤ unsigned_abs (n -ℤ (m *ℤ pos d))
  pub away : (m : ℤ) → unsigned_abs (n -ℤ (m *ℤ pos d)) ≡ unsigned_abs (n -ℤ (q *ℤ pos d)) → unsigned_abs m ≤ unsigned_abs q
