-- Meaning. How boxes are said: by their bounds in millimetres.
use Rattle.std.specs.Prelude.{ℕ, zero, suc, List, ◌++◌, codes}
use Rattle.growing_text.specs.Lengths.{millimetres_text}
use Rattle.swept_boxes.specs.Boxes.{low_of, high_of}
use Rattle.swept_boxes.specs.declared.Box3.{Box3}

-- the first direction, the second, and the third
unfoldable pub direction_text : ℕ → List ℕ
direction_text zero = codes "X"
direction_text (suc zero) = codes "Y"
direction_text (suc (suc n)) = codes "Z"

-- the bounds along a direction, the low one first
unfoldable pub bounds_text : Box3 → ℕ → List ℕ
bounds_text space direction =
    direction_text direction ++ (codes " " ++ (millimetres_text (low_of space direction) ++ (codes " to " ++ millimetres_text (high_of space direction))))

unfoldable pub box_text : Box3 → List ℕ
box_text space = bounds_text space 0 ++ (codes ", " ++ (bounds_text space 1 ++ (codes ", " ++ bounds_text space 2)))
