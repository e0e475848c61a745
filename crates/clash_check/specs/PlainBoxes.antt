-- Meaning. The first two boxes of two lists that meet.
use Rattle.std.specs.Prelude.{◌≡◌, ◌⊎◌, ℕ, ◌<◌, ◌≤◌, true, false, List, length, slice_index_or}
use Rattle.swept_boxes.specs.Boxes.{boxes_meet}
use Rattle.swept_boxes.specs.declared.Box3.{Box3}

-- no box of the one meets a box of the other
abbrev pub NoneMeet : List Box3 → List Box3 → Type 0
NoneMeet left right = (i j : ℕ) (d : Box3) → i < length left → j < length right → boxes_meet (slice_index_or left i d) (slice_index_or right j d) ≡ false

-- the boxes of these numbers meet, and no pair of boxes that meet comes before them: each has a higher number on the left, or the same there and none
-- lower on the right
pub record IsFirstMeeting (left right : List Box3) (i j : ℕ) : Type 0 where
  pub left_number : i < length left
  pub right_number : j < length right
  pub meet : (d : Box3) → boxes_meet (slice_index_or left i d) (slice_index_or right j d) ≡ true
  pub least : (k m : ℕ) (d : Box3) → k < length left → m < length right → boxes_meet (slice_index_or left k d) (slice_index_or right m d) ≡ true
      → (i < k) ⊎ ((i ≡ k) × (j ≤ m))
