use Rattle.axis_sets.specs.declared.limits.TheConstants.{AXIS_LIMIT}
use Rattle.std.proofs.Common.{◌≡◌, ◌≤◌, length, map, take}
use Rattle.swept_boxes.specs.Pieces.{range_of_part}
use Rattle.swept_boxes.proofs.lines.line_part.Given as goal

abbrev pub invariant-loop-axis : goal.invariant-loop-axis
invariant-loop-axis l =
    (l.axes.items ≡ map (range_of_part l.parts l.part) (take l.axis-index l.ends.axes)) × (l.axis-items ≡ l.ends.axes) × (length l.axis-items ≤ AXIS_LIMIT)
