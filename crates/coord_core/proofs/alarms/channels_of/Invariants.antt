use Rattle.std.proofs.Common.{◌≡◌, ℕ, ◌==◌, false, take, length}
use Rattle.axis_sets.specs.Sets.{has}
use Rattle.axis_sets.specs.declared.limits.TheConstants.{CHANNEL_PLACES}
use Rattle.std.specs.List.{list_any}
use Rattle.coord_core.proofs.alarms.channels_of.Given as goal

abbrev pub invariant-loop-channel : goal.invariant-loop-channel
invariant-loop-channel l =
    ((c : ℕ) → has l.channels c ≡ list_any (λ line. line.0 == c) (take l.channel-index l.lines))
    × (has l.channels 0 ≡ false)
    × (length l.channels ≡ CHANNEL_PLACES)
