-- Meaning. How far two boxes reach into each other. Below 0 they are so far apart.
use Rattle.std.specs.Prelude.{◌≡◌, ℕ, ℤ, ◌<◌, ◌-ℤ◌, ◌<ℤ◌}
use Rattle.std.specs.Int.{int_min}
use Rattle.swept_boxes.specs.Boxes.{low_of, high_of}
use Rattle.swept_boxes.specs.declared.Box3.{Box3}

-- along a direction: from the low bound of either box to the high bound of the other, whichever is less
abbrev pub reach_along : Box3 → Box3 → ℕ → ℤ
reach_along left right direction = int_min (high_of left direction -ℤ low_of right direction) (high_of right direction -ℤ low_of left direction)

-- the least of the three directions
unfoldable pub reach_of : Box3 → Box3 → ℤ
reach_of left right = int_min (int_min (reach_along left right 0) (reach_along left right 1)) (reach_along left right 2)

-- the first direction of those along which they reach into each other the least
pub record IsFirstLeast (left right : Box3) (direction : ℕ) : Type 0 where
  pub in_space : direction < 3
  pub least : reach_along left right direction ≡ reach_of left right
  pub first : (other : ℕ) → other < direction → reach_of left right <ℤ reach_along left right other
