use Rattle.std.proofs.Common.{◌≡◌, ℕ, ◌<◌, ◌≤◌, false, length}
use Rattle.axis_exchange.specs.Owners.{axis_state, is_owned_by}
use Rattle.axis_exchange.proofs.owners.Owners.owned_by.Given as goal
use Rattle.axis_sets.specs.Sets.{has}
use Rattle.axis_sets.specs.declared.limits.TheConstants.{AXIS_LIMIT}

-- of the axes below the number those that the channel owns
abbrev pub invariant-loop-index : goal.invariant-loop-index
invariant-loop-index l =
    (length l.owned ≡ AXIS_LIMIT)
    × (0 < l.index → length l.self ≡ AXIS_LIMIT)
    × ((x : ℕ) → x < l.index → has l.owned x ≡ is_owned_by (axis_state l.self x) l.channel)
    × ((x : ℕ) → l.index ≤ x → has l.owned x ≡ false)
