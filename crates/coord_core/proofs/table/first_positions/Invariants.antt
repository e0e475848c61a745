use Rattle.std.proofs.Common.{◌≡◌, ℕ, ◌<◌, ◌≤◌, ◌==◌, if◌then◌else◌, length, Some, None}
use Rattle.axis_sets.specs.Sets.{has}
use Rattle.axis_sets.specs.declared.limits.TheConstants.{AXIS_LIMIT}
use Rattle.std.specs.Prelude.{find, pos}
use Rattle.std.specs.Option.{option_map_or}
use Rattle.axis_sets.specs.Positions.{position_of}
use Rattle.coord_core.proofs.table.first_positions.Given as goal

abbrev pub invariant-loop-index : goal.invariant-loop-index
invariant-loop-index l =
    ((x : ℕ) → x < l.index → position_of l.positions x ≡ (if has l.axes x then Some (option_map_or (λ line. line.2) (find (λ line. line.0 == x) l.lines) (pos 0)) else None))
    × ((x : ℕ) → l.index ≤ x → position_of l.positions x ≡ None)
    × (length l.positions ≡ AXIS_LIMIT)
    × (0 < l.index → length l.axes ≡ AXIS_LIMIT)
