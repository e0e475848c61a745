-- Law. The boxes by which a box of a zone is compared lie in its cover.
use Rattle.std.specs.Prelude.{ℕ, ◌≤ℤ◌, All, List}
use Rattle.job_types.specs.Job.{JobView}
use Rattle.job_types.specs.declared.job.ZoneLine.{ZoneLine}
use Rattle.swept_boxes.specs.Boxes.{low_of, high_of}
use Rattle.swept_boxes.specs.declared.Box3.{Box3}
use Rattle.sync_types.specs.Views.{RunView}
use Rattle.zone_stretches.specs.Overlaps.{BoxPlace, Pair, ZoneTime}
use Rattle.zone_stretches.specs.Pieces.{piece_boxes}
use Rattle.zone_stretches.specs.Stretches.{StretchView}

-- in no direction the piece is below the low bound or above the high bound of the cover
pub record IsWithin (cover piece : Box3) : Type 0 where
  pub low : (direction : ℕ) → low_of cover direction ≤ℤ low_of piece direction
  pub high : (direction : ℕ) → high_of piece direction ≤ℤ high_of cover direction

-- so are the boxes by which a box is compared
abbrev pub IsInCover : JobView → RunView → BoxPlace → Type 0
IsInCover job run place = All (IsWithin place.box.cover) (piece_boxes job run place)

-- those of each box of a stretch
abbrev pub AreInCover : JobView → RunView → ZoneLine → StretchView → Type 0
AreInCover job run zone stretch = All (λ box. IsInCover job run (record { zone = zone; stretch = stretch; box = box })) stretch.boxes

-- those of each stretch of a zone
abbrev pub IsTimeInCover : JobView → RunView → ZoneTime → Type 0
IsTimeInCover job run time = All (AreInCover job run time.zone) time.stretches

-- those of each box of some pairs
abbrev pub ArePairsInCover : JobView → RunView → List Pair → Type 0
ArePairsInCover job run pairs = All (λ pair. IsInCover job run pair.0 × IsInCover job run pair.1) pairs
