use Rattle.std.proofs.Common.{◌≡◌, ℕ, ◌<◌, ◌≤◌, ◌&&◌, false, length}
use Rattle.axis_sets.specs.Sets.{has}
use Rattle.axis_sets.specs.declared.limits.TheConstants.{CHANNEL_PLACES}
use Rattle.coord_core.specs.Tables.{activity_at, state_in}
use Rattle.sync_types.specs.Boards.{stands}
use Rattle.coord_core.proofs.goings.channels_standing.Given as goal

abbrev pub invariant-loop-number : goal.invariant-loop-number
invariant-loop-number l =
    ((c : ℕ) → 1 ≤ c → c < l.number → has l.standing c ≡ (l.from_standing && stands (state_in c (activity_at l.channels c))))
    × (has l.standing 0 ≡ false)
    × ((c : ℕ) → l.number ≤ c → has l.standing c ≡ false)
    × (length l.standing ≡ CHANNEL_PLACES)
