use Rattle.std.proofs.Common.{◌≡◌, ℕ, ◌<◌, ◌≤◌, false, length}
use Rattle.axis_sets.specs.Sets.{has}
use Rattle.axis_sets.specs.declared.limits.TheConstants.{CHANNEL_PLACES}
use Rattle.coord_core.specs.Tables.{activity_at, board_in, state_in}
use Rattle.sync_types.specs.GoingOn.{goes_at_once}
use Rattle.coord_core.proofs.goings.channels_that_go.Given as goal

abbrev pub invariant-loop-number : goal.invariant-loop-number
invariant-loop-number l =
    ((c : ℕ) → 1 ≤ c → c < l.number → has l.goers c ≡ goes_at_once (board_in l.table l.channels) (state_in c (activity_at l.channels c)))
    × (has l.goers 0 ≡ false)
    × ((c : ℕ) → l.number ≤ c → has l.goers c ≡ false)
    × (length l.goers ≡ CHANNEL_PLACES)
