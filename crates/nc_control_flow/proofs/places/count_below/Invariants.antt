use Rattle.std.proofs.Common.{ℕ, ◌-◌, ◌<◌, ◌≤◌, length, get_or}
use Rattle.nc_control_flow.proofs.places.count_below.Given as goal

abbrev pub invariant-loop-low : goal.invariant-loop-low
invariant-loop-low l = record {
  ordered : l.low ≤ l.high;
  within : l.high ≤ length l.places;
  below : (k : ℕ) → k < l.low → get_or l.places k 0 < l.bound;
  above : (k : ℕ) → l.high ≤ k → k < length l.places → l.bound ≤ get_or l.places k 0;
}

abbrev pub decreases-loop-low : goal.decreases-loop-low
decreases-loop-low l = l.high - l.low
