-- Meaning. Vectors of the plane with whole parts.
use Rattle.std.specs.Prelude.{ℕ, ℤ, ◌+◌, ◌*◌, ◌+ℤ◌, ◌-ℤ◌, ◌*ℤ◌, pos, Bool, ◌&&◌, int_lt, unsigned_abs}
use Rattle.std.specs.Ordering.{int_eq}

-- its parts along the first and the second axis of the plane
pub record Vector : Type 0 where
  pub u : ℤ
  pub v : ℤ

-- above 0 where b lies ahead of a by less than half a turn, in the sense from the first axis towards the second
abbrev pub cross : Vector → Vector → ℤ
cross a b = (a.u *ℤ b.v) -ℤ (a.v *ℤ b.u)

-- above 0 where they are apart by less than a quarter turn
abbrev pub dot : Vector → Vector → ℤ
dot a b = (a.u *ℤ b.u) +ℤ (a.v *ℤ b.v)

-- the square of its length
abbrev pub square : Vector → ℕ
square a = unsigned_abs a.u * unsigned_abs a.u + unsigned_abs a.v * unsigned_abs a.v

-- the two have one direction, where none of them is zero
abbrev pub is_one_way : Vector → Vector → Bool
is_one_way a b = int_eq (cross a b) (pos 0) && int_lt (pos 0) (dot a b)
