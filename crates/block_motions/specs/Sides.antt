-- Meaning. What a contract sees of a side of a plane.
use Rattle.std.specs.Prelude.{ℕ}

-- an axis of the plane, X, Y and Z being 0, 1 and 2, and the axis that it moves
pub record SideView : Type 0 where
  pub axis : ℕ
  pub moved : ℕ
