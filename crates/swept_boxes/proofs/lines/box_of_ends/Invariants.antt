use Rattle.axis_sets.specs.declared.limits.TheConstants.{AXIS_LIMIT}
use Rattle.std.proofs.Common.{◌≡◌, ◌≤◌, length, map, take}
use Rattle.swept_boxes.specs.Pieces.{range_between}
use Rattle.swept_boxes.proofs.lines.box_of_ends.Given as goal

abbrev pub invariant-loop-entry : goal.invariant-loop-entry
invariant-loop-entry l =
    (l.axes.items ≡ map range_between (take l.entry-index l.ends.axes)) × (l.entry-items ≡ l.ends.axes) × (length l.entry-items ≤ AXIS_LIMIT)
