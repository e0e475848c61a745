-- Steps. Boxes in which others lie, and groups of boxes that stand one after another.
use Rattle.std.specs.Prelude.{◌≡◌, ℕ, ◌<◌, ◌≤◌, ◌≤ℤ◌, List, length, slice_index_or}
use Rattle.box_tree.specs.declared.groups.Group.{Group}
use Rattle.swept_boxes.specs.Boxes.{low_of, high_of}
use Rattle.swept_boxes.specs.declared.Box3.{Box3}

-- in no direction the inner box is below the low bound or above the high bound of the outer one
pub record LiesIn (inner outer : Box3) : Type 0 where
  pub low : (direction : ℕ) → low_of outer direction ≤ℤ low_of inner direction
  pub high : (direction : ℕ) → high_of inner direction ≤ℤ high_of outer direction

-- the boxes from this place up to the end of the group lie in its hull
pub record IsGroup (boxes : List Box3) (place : ℕ) (group : Group) : Type 0 where
  pub some : place < group.next
  pub within : group.next ≤ length boxes
  pub lie : (k : ℕ) (d : Box3) → place ≤ k → k < group.next → LiesIn (slice_index_or boxes k d) group.hull

-- each place has a group that begins there
pub record AreGroups (boxes : List Box3) (groups : List Group) : Type 0 where
  pub all : length groups ≡ length boxes
  pub each : (place : ℕ) (d : Group) → place < length boxes → IsGroup boxes place (slice_index_or groups place d)
