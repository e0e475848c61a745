use Rattle.std.proofs.Common.{◌≡◌, ℕ, ◌<◌, true, length}
use Rattle.axis_exchange.specs.Owners.{axis_state, may_take_from}
use Rattle.axis_exchange.proofs.owners.Owners.want_from.Given as goal
use Rattle.axis_sets.specs.Sets.{has}
use Rattle.axis_sets.specs.declared.limits.TheConstants.{AXIS_LIMIT}

-- the channel may take the named axes below the number
abbrev pub invariant-loop-index : goal.invariant-loop-index
invariant-loop-index l =
    ((x : ℕ) → x < l.index → has l.axes x ≡ true → may_take_from (axis_state l.self x) l.channel l.standing ≡ true)
    × (0 < l.index → length l.axes ≡ AXIS_LIMIT)
