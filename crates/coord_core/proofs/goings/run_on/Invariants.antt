use Rattle.axis_sets.specs.declared.limits.TheConstants.{CHANNEL_LIMIT, CHANNEL_PLACES}
use Rattle.std.proofs.Common.{◌≡◌, ℕ, ◌+◌, ◌-◌, ◌<◌, ◌≤◌, if◌then◌else◌, length, filter, ◌++◌}
use Rattle.coord_core.specs.Tables.{activity_at, board_in}
use Rattle.std.specs.List.{range_with_len}
use Rattle.axis_sets.specs.Sets.{has}
use Rattle.coord_core.proofs.Rules.{goes_of}
use Rattle.coord_core.specs.declared.activities.Activity.TheVariants.{Running}
use Rattle.sync_types.specs.Boards.{grant_with, no_positions}
use Rattle.sync_types.specs.GoingOn.{going_at_once, goers_at_once}
use Rattle.coord_core.proofs.goings.run_on.Given as goal

abbrev pub invariant-loop-number : goal.invariant-loop-number
invariant-loop-number l =
    (length l.goes.items + length (filter (has l.goers) (range_with_len l.number (CHANNEL_PLACES - l.number))) ≤ CHANNEL_LIMIT)
    × (l.initial.goes.items ++ goes_of (going_at_once (board_in l.table l.initial.channels)) (goers_at_once (board_in l.table l.initial.channels))
    ≡ l.goes.items ++ goes_of (going_at_once (board_in l.table l.initial.channels)) (filter (has l.goers) (range_with_len l.number (CHANNEL_PLACES - l.number))))
    × ((c : ℕ) → c < l.number → activity_at l.channels c ≡ (if has l.goers c then Running (grant_with (board_in l.table l.initial.channels) c no_positions) else activity_at l.initial.channels c))
    × ((c : ℕ) → l.number ≤ c → activity_at l.channels c ≡ activity_at l.initial.channels c)
