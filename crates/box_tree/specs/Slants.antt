-- Steps. Bounds of boxes across two directions.
use Rattle.std.specs.Prelude.{ℕ, ◌<◌, ◌≤ℤ◌, ◌+ℤ◌, ◌-ℤ◌, List, length, slice_index_or}
use Rattle.box_tree.specs.declared.slants.Slant.{Slant}
use Rattle.box_tree.specs.declared.slants.Slants.{Slants}
use Rattle.swept_boxes.specs.Boxes.{low_of, high_of}
use Rattle.swept_boxes.specs.declared.Box3.{Box3}

-- the sums and the differences of the places of a box in two directions are within these bounds
pub record HoldsSlant (box : Box3) (one two : ℕ) (slant : Slant) : Type 0 where
  pub sum_low : slant.sum_low ≤ℤ (low_of box one +ℤ low_of box two)
  pub sum_high : (high_of box one +ℤ high_of box two) ≤ℤ slant.sum_high
  pub low : slant.low ≤ℤ (low_of box one -ℤ high_of box two)
  pub high : (high_of box one -ℤ low_of box two) ≤ℤ slant.high

pub record HoldsSlants (box : Box3) (slants : Slants) : Type 0 where
  pub xy : HoldsSlant box 0 1 slants.xy
  pub xz : HoldsSlant box 0 2 slants.xz
  pub yz : HoldsSlant box 1 2 slants.yz

-- those of each of some boxes
abbrev pub AreHeld : List Box3 → Slants → Type 0
AreHeld boxes slants = (k : ℕ) (d : Box3) → k < length boxes → HoldsSlants (slice_index_or boxes k d) slants
