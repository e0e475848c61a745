-- Meaning. The range of positions.
use Rattle.std.specs.Prelude.{◌≤◌, ℤ, Bool, nat_le}
use Rattle.std.specs.Int.RustNames.{unsigned_abs}
use Rattle.micro_units.specs.declared.limits.TheConstants.{POSITION_LIMIT}

-- so many micrometres are a position
abbrev pub is_position : ℤ → Bool
is_position at = nat_le (unsigned_abs at) POSITION_LIMIT

-- the same as a fact
abbrev pub IsPosition : ℤ → Type 0
IsPosition at = unsigned_abs at ≤ POSITION_LIMIT
