use Rattle.std.proofs.Common.{◌≡◌, ℕ, ◌<◌, ◌≤◌, Some, if◌then◌else◌, length}
use Rattle.axis_exchange.specs.Owners.{axis_state}
use Rattle.axis_exchange.specs.declared.AxisState.TheVariants.{Owned}
use Rattle.axis_exchange.proofs.owners.Owners.take_from.Given as goal
use Rattle.axis_sets.specs.Sets.{has}
use Rattle.axis_sets.specs.declared.limits.TheConstants.{AXIS_LIMIT}

-- the named axes below the number are the channel's, the others as they were
abbrev pub invariant-loop-index : goal.invariant-loop-index
invariant-loop-index l =
    (length l.self-inside.states ≡ AXIS_LIMIT)
    × ((x : ℕ) → x < l.index → axis_state l.self-inside.states x ≡ (if has l.axes x then Some (Owned l.fn.channel) else axis_state l.initial.self-inside.states x))
    × ((x : ℕ) → l.index ≤ x → axis_state l.self-inside.states x ≡ axis_state l.initial.self-inside.states x)
    × (0 < l.index → length l.axes ≡ AXIS_LIMIT)
