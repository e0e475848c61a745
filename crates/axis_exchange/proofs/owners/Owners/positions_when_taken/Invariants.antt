use Rattle.std.proofs.Common.{◌≡◌, ℕ, ◌<◌, ◌≤◌, None, if◌then◌else◌, length}
use Rattle.axis_exchange.specs.Owners.{axis_state, position_when_taken}
use Rattle.axis_exchange.proofs.owners.Owners.positions_when_taken.Given as goal
use Rattle.axis_sets.specs.Positions.{position_of}
use Rattle.axis_sets.specs.Sets.{has}
use Rattle.axis_sets.specs.declared.limits.TheConstants.{AXIS_LIMIT}

-- where those stand of the named axes below the number that the channel takes
abbrev pub invariant-loop-index : goal.invariant-loop-index
invariant-loop-index l =
    ((x : ℕ) → x < l.index → position_of l.positions x ≡ (if has l.axes x then position_when_taken (axis_state l.self x) l.channel (position_of l.told x) else None))
    × ((x : ℕ) → l.index ≤ x → position_of l.positions x ≡ None)
    × (length l.positions ≡ AXIS_LIMIT)
    × (0 < l.index → length l.axes ≡ AXIS_LIMIT)
