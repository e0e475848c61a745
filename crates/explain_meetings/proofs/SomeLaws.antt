-- Each box is compared by some boxes, so two that are compared reach so far into each other or are so far apart.
use Rattle.std.proofs.Common.{◌≡◌, ℕ, ℤ, ◌<◌, List, [], length, Option, None, Some, arith}
use Rattle.explain_reach.proofs.SomeLaws.{some_lot, some_reaches}
use Rattle.job_types.specs.Job.{JobView}
use Rattle.job_types.specs.declared.job.Side.{Side}
use Rattle.explain_meetings.specs.Nearest.{pair_reaches}
use Rattle.path_geometry.specs.declared.motion.Motion.{Motion}
use Rattle.swept_boxes.specs.declared.Box3.{Box3}
use Rattle.sync_types.specs.Views.{RunView}
use Rattle.zone_stretches.specs.Overlaps.{BoxPlace, Pair}
use Rattle.zone_stretches.specs.Pieces.{boxes_in_pieces, motion_at, piece_box, piece_boxes}

some_boxes : (margin : ℤ) (depth : ℕ) (sides : List Side) (cover : Box3) (motion : Option Motion) → 0 < length (boxes_in_pieces margin depth sides cover motion)
some_boxes margin depth sides cover None = omega arith
some_boxes margin depth sides cover (Some motion) = some_lot (λ piece. piece_box margin sides piece cover) motion depth

some_at : (job : JobView) (run : RunView) (place : BoxPlace) → 0 < length (piece_boxes job run place)
unfolding piece_boxes
some_at job run place = some_boxes job.margin job.depth place.zone.sides place.box.cover (motion_at run place.stretch.entry place.box.motion)

-- two boxes have such a number
pub pair_has : (job : JobView) (run : RunView) (pair : Pair) → pair_reaches job run pair ≡ [] → ⊥
pair_has job run pair none = some_reaches (piece_boxes job run pair.0) (piece_boxes job run pair.1) (some_at job run pair.0) (some_at job run pair.1) none
