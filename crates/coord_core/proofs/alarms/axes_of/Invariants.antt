use Rattle.std.proofs.Common.{◌≡◌, ℕ, ◌==◌, take, length}
use Rattle.axis_sets.specs.Sets.{has}
use Rattle.std.specs.List.{list_any}
use Rattle.axis_sets.specs.declared.limits.TheConstants.{AXIS_LIMIT}
use Rattle.coord_core.proofs.alarms.axes_of.Given as goal

abbrev pub invariant-loop-axis : goal.invariant-loop-axis
invariant-loop-axis l =
    ((x : ℕ) → has l.axes x ≡ list_any (λ line. line.0 == x) (take l.axis-index l.lines))
    × (length l.axes ≡ AXIS_LIMIT)
