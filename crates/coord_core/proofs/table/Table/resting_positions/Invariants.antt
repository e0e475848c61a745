use Rattle.std.proofs.Common.{◌≡◌, ℕ, ◌<◌, ◌≤◌, Some, None, if◌then◌else◌, length}
use Rattle.axis_sets.specs.Positions.{position_of}
use Rattle.axis_sets.specs.Sets.{has}
use Rattle.axis_sets.specs.declared.limits.TheConstants.{AXIS_LIMIT}
use Rattle.coord_core.specs.Tables.{resting_in}
use Rattle.coord_core.proofs.table.Table.resting_positions.Given as goal

-- where those of the named axes below the number stand
abbrev pub invariant-loop-index : goal.invariant-loop-index
invariant-loop-index l =
    ((x : ℕ) → x < l.index → position_of l.positions x ≡ (if has l.axes x then Some (resting_in l.self x) else None))
    × ((x : ℕ) → l.index ≤ x → position_of l.positions x ≡ None)
    × (length l.positions ≡ AXIS_LIMIT)
    × (0 < l.index → length l.axes ≡ AXIS_LIMIT)
