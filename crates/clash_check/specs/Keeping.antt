-- Steps. What is kept of the boxes of a stretch while those of another are held against them.
use Rattle.std.specs.Prelude.{ℕ, ◌<◌, ◌&&◌, Bool, List, Option, length, map, slice_index_or}
use Rattle.box_tree.specs.Rows.{IsRowOf, row_of}
use Rattle.clash_check.specs.Meetings.{compared}
use Rattle.clash_check.specs.declared.nearby.Kept.{Kept}
use Rattle.job_types.specs.Job.{JobView}
use Rattle.job_types.specs.declared.job.ZoneLine.{ZoneLine}
use Rattle.swept_boxes.specs.Boxes.{boxes_meet}
use Rattle.swept_boxes.specs.declared.Box3.{Box3}
use Rattle.sync_types.specs.Views.{RunView}
use Rattle.zone_stretches.specs.Cases.{place_of}
use Rattle.zone_stretches.specs.Pieces.{piece_boxes}
use Rattle.zone_stretches.specs.Stretches.{StretchView}
use Rattle.zone_stretches.specs.declared.stretches.ZoneBox.{ZoneBox}

-- a box is compared with this one, and their covers meet
abbrev pub is_near : Bool → ZoneBox → ZoneBox → Bool
is_near shared own later = compared shared own later && boxes_meet own.cover later.cover

-- the rows are of the boxes by which the boxes of a stretch are compared
abbrev pub AreRows : JobView → RunView → ZoneLine → StretchView → List ZoneBox → List (Option (List Box3)) → Type 0
AreRows job run zone stretch boxes rows =
    (place : ℕ) (d : ZoneBox) → place < length boxes → IsRowOf (piece_boxes job run (place_of zone stretch (slice_index_or boxes place d))) (row_of rows place)

-- what is kept of these boxes of a stretch is theirs
pub record IsKeptOf (job : JobView) (run : RunView) (zone : ZoneLine) (stretch : StretchView) (boxes : List ZoneBox) (kept : Kept) : Type 0 where
  pub covers : IsRowOf (map (λ own. own.cover) boxes) kept.covers
  pub pieces : AreRows job run zone stretch boxes kept.pieces.rows
