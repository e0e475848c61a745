-- Steps. Lots of boxes in parts, each with a box in which its boxes lie.
use Rattle.std.specs.Prelude.{◌≡◌, ℕ, ◌<◌, ◌≤ℤ◌, All, List, map}
use Rattle.std.specs.List.{flat_map}
use Rattle.explain_reach.specs.declared.parts.Part.{Part}
use Rattle.swept_boxes.specs.Boxes.{low_of, high_of}
use Rattle.swept_boxes.specs.declared.Box3.{Box3}

-- in no direction is the inner box below the low bound or above the high bound of the outer one
pub record LiesIn (outer inner : Box3) : Type 0 where
  pub low : (direction : ℕ) → direction < 3 → low_of outer direction ≤ℤ low_of inner direction
  pub high : (direction : ℕ) → direction < 3 → high_of inner direction ≤ℤ high_of outer direction

-- the boxes of a part
abbrev pub boxes_in : Part → List Box3
boxes_in part = part.boxes.items

-- the boxes of a part lie in its cover
abbrev pub IsCovered : Part → Type 0
IsCovered part = All (LiesIn part.cover) (boxes_in part)

-- the parts have the boxes of a lot, in their order
abbrev pub AreParts : List Box3 → List Part → Type 0
AreParts boxes parts = (flat_map boxes_in parts ≡ boxes) × All IsCovered parts

-- the covers of some parts, in their order
abbrev pub AreCovers : List Box3 → List Part → Type 0
AreCovers covers parts = covers ≡ map (λ part. part.cover) parts
