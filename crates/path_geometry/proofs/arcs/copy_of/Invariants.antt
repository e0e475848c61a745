use Rattle.axis_sets.specs.declared.limits.TheConstants.{AXIS_LIMIT}
use Rattle.std.proofs.Common.{◌≡◌, ◌≤◌, length, take}
use Rattle.path_geometry.proofs.arcs.copy_of.Given as goal

abbrev pub invariant-loop-end : goal.invariant-loop-end
invariant-loop-end l = (l.axes.items ≡ take l.end-index l.ends.axes) × (l.end-items ≡ l.ends.axes) × (length l.end-items ≤ AXIS_LIMIT)
