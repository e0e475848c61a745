-- Meaning. When two boxes meet.
use Rattle.std.specs.Prelude.{ℕ, ℤ, pos, ◌<◌, ◌*ℤ◌, ◌≤ℤ◌, Bool, ◌&&◌}
use Rattle.std.specs.Int.{int_max, int_min}
use Rattle.std.specs.Int.RustNames.{int_le}
use Rattle.std.specs.List.{slice_index_or}
use Rattle.swept_boxes.specs.declared.Box3.{Box3}

-- a point of space: in each direction a fraction of micrometres, all over one denominator
pub record SpacePoint : Type 0 where
  pub top : ℕ → ℤ
  pub under : ℕ

-- the bounds of a box in a direction
abbrev pub low_of : Box3 → ℕ → ℤ
low_of box direction = slice_index_or box.lo direction (pos 0)

abbrev pub high_of : Box3 → ℕ → ℤ
high_of box direction = slice_index_or box.hi direction (pos 0)

-- the point is in the box: in no direction below its low bound or above its high bound
pub record IsInBox (box : Box3) (point : SpacePoint) : Type 0 where
  pub fraction : 0 < point.under
  pub above : (direction : ℕ) → direction < 3 → (low_of box direction *ℤ pos point.under) ≤ℤ point.top direction
  pub below : (direction : ℕ) → direction < 3 → point.top direction ≤ℤ (high_of box direction *ℤ pos point.under)

-- two boxes meet where they share a point
abbrev pub DoMeet : Box3 → Box3 → Type 0
DoMeet left right = (point : SpacePoint) × IsInBox left point × IsInBox right point

-- in this direction the greater low bound is not above the lesser high bound
abbrev pub TouchIn : Box3 → Box3 → ℕ → Type 0
TouchIn left right direction =
    int_max (low_of left direction) (low_of right direction) ≤ℤ int_min (high_of left direction) (high_of right direction)

-- the same by the bounds: so it is in all three directions
abbrev pub TouchInAll : Box3 → Box3 → Type 0
TouchInAll left right = (direction : ℕ) → direction < 3 → TouchIn left right direction

-- ---- the same as a test

-- in this direction they touch
abbrev pub do_touch : Box3 → Box3 → ℕ → Bool
do_touch left right direction = int_le (int_max (low_of left direction) (low_of right direction)) (int_min (high_of left direction) (high_of right direction))

-- the two boxes share a point: in each direction the greater low bound is not above the lesser high bound
unfoldable pub boxes_meet : Box3 → Box3 → Bool
boxes_meet left right = do_touch left right 0 && (do_touch left right 1 && do_touch left right 2)
