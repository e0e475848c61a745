use Rattle.std.proofs.Common.{◌≡◌, ℕ, take, length}
use Rattle.axis_exchange.specs.Owners.{axis_state, first_state}
use Rattle.axis_exchange.proofs.owners.Owners.new.Given as goal
use Rattle.axis_sets.specs.declared.limits.TheConstants.{AXIS_LIMIT}

-- what the lines so far say
abbrev pub invariant-loop-axis : goal.invariant-loop-axis
invariant-loop-axis l = (length l.states ≡ AXIS_LIMIT) × ((x : ℕ) → axis_state l.states x ≡ first_state (take l.axis-index l.axes) x)
