-- Steps. The boxes by which the boxes of a stretch are compared, kept once they are made.
use Rattle.std.specs.Prelude.{◌≡◌, ℕ, ◌<◌, List, length, slice_index_or}
use Rattle.job_types.specs.Job.{JobView}
use Rattle.job_types.specs.declared.job.ZoneLine.{ZoneLine}
use Rattle.swept_boxes.specs.declared.Box3.{Box3}
use Rattle.sync_types.specs.Views.{RunView}
use Rattle.zone_stretches.specs.Cases.{place_of}
use Rattle.zone_stretches.specs.Pieces.{piece_boxes}
use Rattle.zone_stretches.specs.Stretches.{StretchView}
use Rattle.zone_stretches.specs.declared.stretches.ZoneBox.{ZoneBox}

-- a box of a stretch, with its place
pub record IsAt (boxes : List ZoneBox) (place : ℕ) (box : ZoneBox) : Type 0 where
  pub within : place < length boxes
  pub is : box ≡ slice_index_or boxes place box

-- what is kept at a place
pub record IsKeptAt (kept : List (List Box3)) (place : ℕ) (made : List Box3) : Type 0 where
  pub within : place < length kept
  pub is : made ≡ slice_index_or kept place made

-- at each place none are kept, or those of the box of that place
pub record AreKept (job : JobView) (run : RunView) (zone : ZoneLine) (stretch : StretchView) (kept : List (List Box3)) : Type 0 where
  pub each : (place : ℕ) → (made : List Box3) → (box : ZoneBox) → IsKeptAt kept place made → IsAt stretch.boxes place box → 0 < length made → made ≡ piece_boxes job run (place_of zone stretch box)
