-- Meaning. Fractions compared by cross-multiplication. The number under a fraction is above 0.
use Rattle.std.specs.Prelude.{◌≡◌, ℕ, ℤ, pos, ◌*ℤ◌, ◌≤ℤ◌}

-- top / under
pub record Fraction : Type 0 where
  pub top : ℤ
  pub under : ℕ

-- a whole number as a fraction
abbrev pub whole : ℤ → Fraction
whole n = record { top = n; under = 1 }

-- one fraction is at most the other
abbrev pub IsAtMost : Fraction → Fraction → Type 0
IsAtMost p q = (p.top *ℤ pos q.under) ≤ℤ (q.top *ℤ pos p.under)

-- the two are one number
abbrev pub IsSame : Fraction → Fraction → Type 0
IsSame p q = (p.top *ℤ pos q.under) ≡ (q.top *ℤ pos p.under)

-- the fraction top / under lies between two whole numbers, or is one of them
pub record IsIn (low high top : ℤ) (under : ℕ) : Type 0 where
  pub above : (low *ℤ pos under) ≤ℤ top
  pub below : top ≤ℤ (high *ℤ pos under)
