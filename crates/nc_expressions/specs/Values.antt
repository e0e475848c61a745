-- Meaning. What an expression reads.
use Rattle.std.specs.Prelude.{ℕ, ℤ}

-- what an expression reads: the value of each parameter
pub record Values : Type 0 where
  pub parameter : ℕ → ℤ
