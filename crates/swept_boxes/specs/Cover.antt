-- Meaning. The cover of a motion: the smallest ranges that hold its pieces at depth 0.
use Rattle.std.specs.Prelude.{List, map}
use Rattle.std.specs.List.{All}
use Rattle.arc_quadrants.specs.Quarters.{quarters_of}
use Rattle.arc_quadrants.specs.declared.walk.Quarter.{Quarter}
use Rattle.path_geometry.specs.declared.motion.Arc.{Arc}
use Rattle.path_geometry.specs.declared.motion.Motion.{Motion}
use Rattle.path_geometry.specs.declared.motion.Motion.TheVariants.{Line, Rapid}
use Rattle.path_geometry.specs.declared.motion.Motion.TheVariants as Kind
use Rattle.swept_boxes.specs.Pieces.{box_of_ends, box_of_part, ranges_over}
use Rattle.swept_boxes.specs.PlaneBoxes.{BoxInPlane, joined_all}
use Rattle.swept_boxes.specs.Ranges.{RangesView, LieIn}

-- the box of a whole quarter of an arc
abbrev pub box_of_quarter : Arc → Quarter → BoxInPlane
box_of_quarter arc quarter = box_of_part arc quarter (quarter.from, quarter.to)

-- an arc has each axis of its plane over all its quarters
abbrev pub cover_of_arc : Arc → RangesView
cover_of_arc arc = ranges_over arc (joined_all (map (box_of_quarter arc) (quarters_of arc)))

abbrev pub cover_of : Motion → RangesView
cover_of (Line ends) = box_of_ends ends
cover_of (Rapid ends) = box_of_ends ends
cover_of (Kind.Arc arc) = cover_of_arc arc

-- the ranges hold each piece, and lie in all ranges that do
pub record AreSmallest (ranges : RangesView) (pieces : List RangesView) : Type 0 where
  pub hold : All (λ piece. LieIn piece ranges) pieces
  pub least : (other : RangesView) → All (λ piece. LieIn piece other) pieces → LieIn ranges other
