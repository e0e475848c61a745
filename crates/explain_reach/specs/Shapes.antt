-- Meaning. What two boxes have in common; boxes that are moved, and boxes that are grown.
use Rattle.std.specs.Prelude.{ℕ, ℤ, pos, ◌<◌, ◌==◌, ◌+ℤ◌, ◌-ℤ◌, ◌≤ℤ◌, [], ◌∷◌, if◌then◌else◌}
use Rattle.std.specs.Int.{int_max, int_min}
use Rattle.swept_boxes.specs.Boxes.{low_of, high_of}
use Rattle.swept_boxes.specs.declared.Box3.{Box3}

-- the box with these bounds in each direction
unfoldable pub box_with : (ℕ → ℤ) → (ℕ → ℤ) → Box3
box_with low high = record { lo = low 0 ∷ low 1 ∷ low 2 ∷ []; hi = high 0 ∷ high 1 ∷ high 2 ∷ [] }

-- in no direction is the low bound above the high bound
abbrev pub HasPoint : Box3 → Type 0
HasPoint box = (direction : ℕ) → direction < 3 → low_of box direction ≤ℤ high_of box direction

-- in each direction from the higher of the low bounds to the lower of the high ones
abbrev pub common_low : Box3 → Box3 → ℕ → ℤ
common_low left right direction = int_max (low_of left direction) (low_of right direction)

abbrev pub common_high : Box3 → Box3 → ℕ → ℤ
common_high left right direction = int_min (high_of left direction) (high_of right direction)

unfoldable pub common_box : Box3 → Box3 → Box3
common_box left right = box_with (common_low left right) (common_high left right)

-- moved by so much along one direction
abbrev pub shift_along : ℕ → ℤ → ℕ → ℤ
shift_along along shift direction = if direction == along then shift else pos 0

unfoldable pub moved_box : Box3 → ℕ → ℤ → Box3
moved_box box along shift =
    box_with (λ direction. low_of box direction +ℤ shift_along along shift direction) (λ direction. high_of box direction +ℤ shift_along along shift direction)

-- grown by so much at both ends of each direction; below 0 it shrinks
unfoldable pub grown_box : ℤ → Box3 → Box3
grown_box growth box = box_with (λ direction. low_of box direction -ℤ growth) (λ direction. high_of box direction +ℤ growth)
