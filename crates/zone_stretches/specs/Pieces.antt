-- Meaning. When two boxes of zones meet: by the pieces of their motions.
use Rattle.std.specs.Prelude.{ℕ, ℤ, ◌+◌, ◌==◌, Bool, List, [], ◌∷◌, map, Option, None, Some, find}
use Rattle.std.specs.List.{list_any}
use Rattle.std.specs.Option.{option_and_then, option_map_or}
use Rattle.job_types.specs.Job.{JobView}
use Rattle.job_types.specs.declared.job.Side.{Side}
use Rattle.path_geometry.specs.declared.motion.Motion.{Motion}
use Rattle.swept_boxes.specs.Boxes.{low_of, high_of, boxes_meet}
use Rattle.swept_boxes.specs.Pieces.{pieces_at}
use Rattle.swept_boxes.specs.Ranges.{RangesView}
use Rattle.swept_boxes.specs.declared.Box3.{Box3}
use Rattle.sync_types.specs.Items.{motion_at as motion_of_place}
use Rattle.sync_types.specs.Views.{RunView}
use Rattle.zone_stretches.specs.Overlaps.{BoxPlace, Pair}
use Rattle.zone_stretches.specs.ZoneBoxes.{side_low, side_high}

-- the range of the axis that carries a side, where there is one
abbrev pub range_for : RangesView → Option (ℕ × Bool) → Option (ℕ × ℤ × ℤ)
range_for ranges None = None
range_for ranges (Some carrier) = find (λ r. r.0 == carrier.0) ranges.axes

-- the bounds of a side in a piece: those of its carrier within the piece; a side that no axis of the motion carries has those of the cover
unfoldable pub piece_low : ℤ → RangesView → Side → ℤ → ℤ
piece_low margin ranges side cover = option_map_or (λ r. side_low margin (λ axis. r.1) (λ axis. r.2) side) (range_for ranges side.carrier) cover

unfoldable pub piece_high : ℤ → RangesView → Side → ℤ → ℤ
piece_high margin ranges side cover = option_map_or (λ r. side_high margin (λ axis. r.1) (λ axis. r.2) side) (range_for ranges side.carrier) cover

-- each side with its direction, counted from this one
abbrev pub by_direction : (Side → ℕ → ℤ) → ℕ → List Side → List ℤ
by_direction f direction [] = []
by_direction f direction (side ∷ sides) = f side direction ∷ by_direction f (direction + 1) sides

-- the box of a zone in a piece of a motion with this cover
unfoldable pub piece_box : ℤ → List Side → RangesView → Box3 → Box3
piece_box margin sides ranges cover = record {
  lo = by_direction (λ side direction. piece_low margin ranges side (low_of cover direction)) 0 sides;
  hi = by_direction (λ side direction. piece_high margin ranges side (high_of cover direction)) 0 sides;
}

-- the motion of a place of an entry; none where the box stands
abbrev pub motion_at : RunView → ℕ → Option ℕ → Option Motion
motion_at run entry place = option_and_then (motion_of_place run entry) place

-- the boxes of a zone in the pieces of its motion at this depth; a box that stands is one piece
abbrev pub boxes_in_pieces : ℤ → ℕ → List Side → Box3 → Option Motion → List Box3
boxes_in_pieces margin depth sides cover None = cover ∷ []
boxes_in_pieces margin depth sides cover (Some motion) = map (λ piece. piece_box margin sides piece cover) (pieces_at motion depth)

-- the boxes by which a box of a zone is compared
unfoldable pub piece_boxes : JobView → RunView → BoxPlace → List Box3
piece_boxes job run place = boxes_in_pieces job.margin job.depth place.zone.sides place.box.cover (motion_at run place.stretch.entry place.box.motion)

-- a piece of the one and a piece of the other meet
unfoldable pub pair_meets : JobView → RunView → Pair → Bool
pair_meets job run pair = list_any (λ left. list_any (boxes_meet left) (piece_boxes job run pair.1)) (piece_boxes job run pair.0)
