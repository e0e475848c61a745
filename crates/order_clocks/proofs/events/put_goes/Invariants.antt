use Rattle.order_clocks.specs.declared.events.TheConstants.{EVENT_PLACES}
use Rattle.std.proofs.Common.{◌≡◌, ℕ, ◌<◌, length, None, slice_index_or}
use Rattle.order_clocks.specs.Pairs.{IsGoAt}
use Rattle.order_clocks.proofs.events.put_goes.Given as goal

abbrev pub invariant-loop-number : goal.invariant-loop-number
invariant-loop-number l = record {
  size : length l.events ≡ EVENT_PLACES;
  none : slice_index_or l.events 0 None ≡ None;
  done : (k : ℕ) → 0 < k → k < l.number → IsGoAt l.goes l.rows k (slice_index_or l.events k None);
}
