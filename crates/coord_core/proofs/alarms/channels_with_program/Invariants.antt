use Rattle.std.proofs.Common.{◌≡◌, ℕ, ◌<◌, ◌≤◌, false, length, None, is_some, slice_index_or}
use Rattle.axis_sets.specs.Sets.{has}
use Rattle.axis_sets.specs.declared.limits.TheConstants.{CHANNEL_PLACES}
use Rattle.coord_core.proofs.alarms.channels_with_program.Given as goal

abbrev pub invariant-loop-number : goal.invariant-loop-number
invariant-loop-number l =
    ((c : ℕ) → 1 ≤ c → c < l.number → has l.found c ≡ is_some (slice_index_or l.programs c None))
    × (has l.found 0 ≡ false)
    × ((c : ℕ) → l.number ≤ c → has l.found c ≡ false)
    × (length l.found ≡ CHANNEL_PLACES)
