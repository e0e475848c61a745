-- Steps. Rows of positions as the code keeps them.
use Rattle.std.specs.Prelude.{ℕ, ℤ, pos, List, slice_index_or}

-- a row of positions says where each axis is; beyond the row it is at 0
abbrev pub positions_in : List ℤ → ℕ → ℤ
positions_in row axis = slice_index_or row axis (pos 0)
