use Rattle.axis_sets.specs.declared.limits.TheConstants.{CHANNEL_PLACES}
use Rattle.std.proofs.Common.{◌≡◌, ℕ, ◌<◌, max, length, [], None, get_or}
use Rattle.counter_rows.specs.Rows.{top, count_of}
use Rattle.order_clocks.specs.Steps.{keys_of, row_at}
use Rattle.order_clocks.proofs.times.LastClocks.own_rows.Given as goal

abbrev pub invariant-loop-c : goal.invariant-loop-c
invariant-loop-c l = record {
  size : length l.own ≡ CHANNEL_PLACES;
  done : (k : ℕ) → k < l.c → (x : ℕ) → count_of (get_or l.own k []) x ≡ max (count_of (get_or l.self.past k []) x) (top (λ q. count_of (row_at l.self q) x) (keys_of k (get_or l.goes k None)));
}
