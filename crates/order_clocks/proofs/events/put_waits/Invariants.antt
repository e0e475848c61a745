use Rattle.order_clocks.specs.declared.events.TheConstants.{EVENT_PLACES}
use Rattle.axis_sets.specs.declared.limits.TheConstants.{CHANNEL_PLACES}
use Rattle.std.proofs.Common.{◌≡◌, ℕ, ◌<◌, length, None, slice_index_or}
use Rattle.order_clocks.specs.Pairs.{IsWaitAt}
use Rattle.order_clocks.proofs.events.put_waits.Given as goal

abbrev pub invariant-loop-number : goal.invariant-loop-number
invariant-loop-number l = record {
  size : length l.waits ≡ EVENT_PLACES;
  first : slice_index_or l.waits 0 None ≡ None;
  last : slice_index_or l.waits CHANNEL_PLACES None ≡ None;
  done : (k : ℕ) → 0 < k → k < l.number → IsWaitAt (slice_index_or l.holds k None) k (slice_index_or l.waits k None);
}
