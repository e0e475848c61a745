use Rattle.std.proofs.Common.{◌≡◌, ℕ, ◌<◌, ◌≤◌, if◌then◌else◌, length}
use Rattle.axis_exchange.specs.Owners.{axis_state, free_at}
use Rattle.axis_exchange.proofs.owners.Owners.release.Given as goal
use Rattle.axis_sets.specs.Positions.{position_of}
use Rattle.axis_sets.specs.Sets.{has}

-- the named axes below the number are free, the others as they were
abbrev pub invariant-loop-index : goal.invariant-loop-index
invariant-loop-index l =
    (length l.self-inside.states ≡ length l.initial.self-inside.states)
    × ((x : ℕ) → x < l.index → axis_state l.self-inside.states x ≡ (if has l.axes x then free_at (position_of l.at x) else axis_state l.initial.self-inside.states x))
    × ((x : ℕ) → l.index ≤ x → axis_state l.self-inside.states x ≡ axis_state l.initial.self-inside.states x)
