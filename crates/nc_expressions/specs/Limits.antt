-- Meaning. The two limits of the grammar, which every expression keeps. Which of them an input breaks is told by whether it could go
-- on without that one.
use Rattle.std.specs.Prelude.{ℕ, Bool, true, false, not, ◌||◌, nat_lt}
use Rattle.nc_expressions.specs.declared.limits.TheConstants.{PARENTHESIS_LIMIT}

-- at most so many parentheses are open as may be; no comparison stands beside AND, OR, XOR or NOT
pub record Limits : Type 0 where
  pub nested : Bool
  pub apart : Bool

abbrev pub all_limits : Limits
all_limits = record { nested = true; apart = true }

-- any number of parentheses
abbrev pub any_nesting : Limits
any_nesting = record { nested = false; apart = true }

-- comparisons beside AND, OR, XOR and NOT
abbrev pub any_mixture : Limits
any_mixture = record { nested = true; apart = false }

-- with so many parentheses open, one more may be opened
abbrev pub has_room : Limits → ℕ → Bool
has_room limits n = not limits.nested || nat_lt n PARENTHESIS_LIMIT
