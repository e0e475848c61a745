use Rattle.axis_sets.specs.declared.limits.TheConstants.{CHANNEL_PLACES}
use Rattle.std.proofs.Common.{◌≡◌, ℕ, ◌-◌, ◌<◌, ◌≤◌, if◌then◌else◌, length, filter, ◌++◌}
use Rattle.coord_core.specs.Tables.{activity_at, board_in}
use Rattle.std.specs.List.{range_with_len}
use Rattle.axis_sets.specs.Sets.{has}
use Rattle.coord_core.proofs.Rules.{goes_of}
use Rattle.coord_core.specs.declared.activities.Activity.TheVariants.{Running}
use Rattle.sync_types.specs.Boards.{start_grant, channel_numbers}
use Rattle.sync_types.specs.GoingOn.{going_of_start}
use Rattle.coord_core.proofs.state.start_channels.Given as goal

abbrev pub invariant-loop-number : goal.invariant-loop-number
invariant-loop-number l =
    (length l.goes.items < l.number)
    × (goes_of (going_of_start (board_in l.table l.initial.channels)) (filter (has l.named) channel_numbers)
    ≡ l.goes.items ++ goes_of (going_of_start (board_in l.table l.initial.channels)) (filter (has l.named) (range_with_len l.number (CHANNEL_PLACES - l.number))))
    × ((c : ℕ) → c < l.number → activity_at l.channels c ≡ (if has l.named c then Running (start_grant (board_in l.table l.initial.channels) c) else activity_at l.initial.channels c))
    × ((c : ℕ) → l.number ≤ c → activity_at l.channels c ≡ activity_at l.initial.channels c)
