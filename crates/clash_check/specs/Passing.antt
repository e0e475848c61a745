-- Steps. Boxes that met none of the boxes of a stretch.
use Rattle.std.specs.Prelude.{◌≡◌, ℕ, ◌<◌, not, Bool, true, All, List, Option, length, slice_index_or}
use Rattle.std.specs.List.{list_all}
use Rattle.clash_check.specs.Keeping.{IsKeptOf}
use Rattle.clash_check.specs.Meetings.{touches}
use Rattle.clash_check.specs.declared.nearby.Memory.{Memory}
use Rattle.job_types.specs.Job.{JobView}
use Rattle.job_types.specs.declared.job.ZoneLine.{ZoneLine}
use Rattle.passed_boxes.specs.declared.passed.PassedBox.{PassedBox}
use Rattle.path_geometry.specs.declared.motion.Motion.{Motion}
use Rattle.swept_boxes.specs.declared.Box3.{Box3}
use Rattle.sync_types.specs.Views.{RunView}
use Rattle.zone_stretches.specs.Cases.{place_of}
use Rattle.zone_stretches.specs.Pieces.{boxes_in_pieces, piece_boxes}
use Rattle.zone_stretches.specs.Stretches.{StretchView}
use Rattle.zone_stretches.specs.declared.stretches.ZoneBox.{ZoneBox}

-- a box of a zone, in a motion or standing, meets none of these boxes of a stretch of another
unfoldable pub meets_none : JobView → RunView → ZoneLine → ZoneLine → StretchView → List ZoneBox → Box3 → Option Motion → Bool
meets_none job run own zone stretch boxes cover motion =
    list_all (λ later. not (touches cover (boxes_in_pieces job.margin job.depth own.sides cover motion) later.cover (piece_boxes job run (place_of zone stretch later)))) boxes

-- so do all of these
abbrev pub ArePassed : JobView → RunView → ZoneLine → ZoneLine → StretchView → List ZoneBox → List PassedBox → Type 0
ArePassed job run own zone stretch boxes passed = All (λ box. meets_none job run own zone stretch boxes box.cover box.motion ≡ true) passed

-- what is kept of a stretch is its own
pub record IsMemory (job : JobView) (run : RunView) (own zone : ZoneLine) (stretch : StretchView) (memory : Memory) : Type 0 where
  pub kept : IsKeptOf job run zone stretch stretch.boxes memory.kept
  pub passed : ArePassed job run own zone stretch stretch.boxes memory.passed

-- what was kept of the stretch of any place still is, where the one of this place is given
abbrev pub StaysMemory : JobView → RunView → ZoneLine → ZoneLine → StretchView → ℕ → Memory → Memory → Type 0
StaysMemory job run own zone stretch place old new =
    (k : ℕ) (other : StretchView) → (k ≡ place → other ≡ stretch) → (old.place ≡ k → IsMemory job run own zone other old) → new.place ≡ k → IsMemory job run own zone other new

-- it is of one of these stretches, by its place, or of none
abbrev pub IsMemoryOfAny : JobView → RunView → ZoneLine → ZoneLine → List StretchView → Memory → Type 0
IsMemoryOfAny job run own zone stretches memory =
    (k : ℕ) (d : StretchView) → k < length stretches → memory.place ≡ k → IsMemory job run own zone (slice_index_or stretches k d) memory
