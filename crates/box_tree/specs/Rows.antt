-- Steps. What is kept for the places of a list.
use Rattle.std.specs.Prelude.{◌≡◌, ℕ, List, Option, None, Some, length, slice_index_or, sum_by}
use Rattle.swept_boxes.specs.declared.Box3.{Box3}

-- what a contract sees of trees that are kept: the boxes of each place, where there is a tree of it, and for how many more boxes there is room
pub record KeptView : Type 0 where
  pub rows : List (Option (List Box3))
  pub room : ℕ

-- what is kept for a place, if anything is
abbrev pub row_of : List (Option (List Box3)) → ℕ → Option (List Box3)
row_of rows place = slice_index_or rows place None

-- the boxes of a row are these, where there is a row
abbrev pub IsRowOf : List Box3 → Option (List Box3) → Type 0
IsRowOf boxes None = Unit {0}
IsRowOf boxes (Some row) = row ≡ boxes

-- how many boxes are kept
abbrev pub boxes_of_row : Option (List Box3) → ℕ
boxes_of_row None = 0
boxes_of_row (Some row) = length row

abbrev pub box_count : List (Option (List Box3)) → ℕ
box_count rows = sum_by boxes_of_row rows
