use Rattle.axis_sets.specs.declared.limits.TheConstants.{AXIS_LIMIT}
use Rattle.std.proofs.Common.{◌≡◌, ◌≤◌, length, map, take}
use Rattle.swept_boxes.specs.Pieces.{range_over}
use Rattle.swept_boxes.proofs.arcs.ranges_over.Given as goal

abbrev pub invariant-loop-entry : goal.invariant-loop-entry
invariant-loop-entry l =
    (l.axes.items ≡ map (range_over l.arc l.area) (take l.entry-index l.arc.ends.axes)) × (l.entry-items ≡ l.arc.ends.axes) × (length l.entry-items ≤ AXIS_LIMIT)
