-- Meaning. The pieces of a motion at a depth.
use Rattle.std.specs.Prelude.{ℕ, ℤ, ◌+◌, ◌^◌, ◌+ℤ◌, ◌==◌, if◌then◌else◌, List, [], ◌∷◌, map}
use Rattle.std.specs.Int.{int_max, int_min}
use Rattle.std.specs.List.{range_with_len, flat_map}
use Rattle.micro_units.specs.declared.Um.{Um}
use Rattle.number_laws.specs.Floors.{floor_div, ceil_div}
use Rattle.arc_quadrants.specs.Bounds.{bounds_between}
use Rattle.arc_quadrants.specs.Halves.{halves}
use Rattle.arc_quadrants.specs.Quarters.{quarters_of}
use Rattle.arc_quadrants.specs.declared.walk.Quarter.{Quarter}
use Rattle.axis_sets.specs.declared.ids.AxisId.{AxisId}
use Rattle.path_geometry.specs.Ends.{EndsView}
use Rattle.path_geometry.specs.Path.{way_divided}
use Rattle.path_geometry.specs.declared.motion.Arc.{Arc}
use Rattle.path_geometry.specs.declared.motion.Motion.{Motion}
use Rattle.path_geometry.specs.declared.motion.Motion.TheVariants.{Line, Rapid}
use Rattle.path_geometry.specs.declared.motion.Motion.TheVariants as Kind
use Rattle.swept_boxes.specs.PlaneBoxes.{BoxInPlane, turned_ahead}
use Rattle.swept_boxes.specs.Ranges.{RangesView}

-- ---- lines
-- the bounds of one of several equal parts of the way from start to end, rounded outwards to whole micrometres
abbrev pub low_of_part : ℤ → ℤ → ℕ → ℕ → ℤ
low_of_part start end parts part =
    int_min (floor_div (way_divided start end parts part) parts) (floor_div (way_divided start end parts (part + 1)) parts)

abbrev pub high_of_part : ℤ → ℤ → ℕ → ℕ → ℤ
high_of_part start end parts part =
    int_max (ceil_div (way_divided start end parts part) parts) (ceil_div (way_divided start end parts (part + 1)) parts)

-- the range of an axis with its start and its end in one of several equal parts of the way, counted from 0
abbrev pub range_of_part : ℕ → ℕ → AxisId × Um × Um → AxisId × Um × Um
range_of_part parts part e = (e.0, low_of_part e.1 e.2 parts part, high_of_part e.1 e.2 parts part)

-- the ranges of all axes of a line in that part
abbrev pub part_of_line : EndsView → ℕ → ℕ → RangesView
part_of_line ends parts part = record { axes = map (range_of_part parts part) ends.axes }

-- 2 ^ depth equal parts in order
abbrev pub pieces_of_line : EndsView → ℕ → List RangesView
pieces_of_line ends depth = map (part_of_line ends (2 ^ depth)) (range_with_len 0 (2 ^ depth))

-- ---- rapids
-- an axis from the lesser to the greater of its start and its end
abbrev pub range_between : AxisId × Um × Um → AxisId × Um × Um
range_between e = (e.0, int_min e.1 e.2, int_max e.1 e.2)

-- so for each axis
abbrev pub box_of_ends : EndsView → RangesView
box_of_ends ends = record { axes = map range_between ends.axes }

-- one piece
abbrev pub pieces_of_rapid : EndsView → List RangesView
pieces_of_rapid ends = box_of_ends ends ∷ []

-- ---- arcs
-- the range of an axis of an arc over a box of its plane: an axis of the plane is within the box about the centre, and another one
-- anywhere between its start and its end
abbrev pub range_over : Arc → BoxInPlane → AxisId × Um × Um → AxisId × Um × Um
range_over arc box e =
    if e.0 == arc.first then (e.0, arc.centre.0 +ℤ box.u_low, arc.centre.0 +ℤ box.u_high)
    else if e.0 == arc.second then (e.0, arc.centre.1 +ℤ box.v_low, arc.centre.1 +ℤ box.v_high)
    else range_between e

abbrev pub ranges_over : Arc → BoxInPlane → RangesView
ranges_over arc box = record { axes = map (range_over arc box) arc.ends.axes }

-- the box of the part of a quarter between two directions
abbrev pub box_of_part : Arc → Quarter → (ℕ × ℕ) × (ℕ × ℕ) → BoxInPlane
box_of_part arc quarter d = turned_ahead quarter.turn (bounds_between arc.inner arc.outer d.0 d.1)

-- the pieces of an arc in one of its quarters
abbrev pub pieces_of_quarter : Arc → ℕ → Quarter → List RangesView
pieces_of_quarter arc depth quarter = map (λ d. ranges_over arc (box_of_part arc quarter d)) (halves depth quarter.from quarter.to)

-- ---- all motions
-- the quarters of an arc, and none of another motion
abbrev pub quarters_in : Motion → List Quarter
quarters_in (Line ends) = []
quarters_in (Rapid ends) = []
quarters_in (Kind.Arc arc) = quarters_of arc

-- the pieces in order: a rapid is one piece at every depth, and an arc is cut into quarters first
abbrev pub pieces_at : Motion → ℕ → List RangesView
pieces_at (Line ends) depth = pieces_of_line ends depth
pieces_at (Rapid ends) depth = pieces_of_rapid ends
pieces_at (Kind.Arc arc) depth = flat_map (pieces_of_quarter arc depth) (quarters_of arc)
