-- Meaning. Where some axes stand: for each axis by its number its position in micrometres, or none.
use Rattle.std.specs.Prelude.{ℕ, ℤ, pos, List, slice_index_or, Option, None, unwrap_or}

-- the position of an axis, or none where it has none
abbrev pub position_of : List (Option ℤ) → ℕ → Option ℤ
position_of positions axis = slice_index_or positions axis None

-- where an axis stands by these positions; one without a position stands at 0
abbrev pub stands : List (Option ℤ) → ℕ → ℤ
stands at axis = unwrap_or (position_of at axis) (pos 0)
