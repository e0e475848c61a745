use Rattle.std.proofs.Common.{◌≡◌, ℕ, ◌<◌, ◌≤◌, [], None, slice_index_or, if◌then◌else◌}
use Rattle.counter_rows.specs.Rows.{count_of}
use Rattle.order_clocks.specs.TracedRaces.{Trace}
use Rattle.order_clocks.specs.LastPlaces.{spot_at, leaves_of}
use Rattle.order_clocks.proofs.places.LastTouches.note_goes.Given as goal

abbrev pub invariant-loop-c : goal.invariant-loop-c
invariant-loop-c l = record {
  done : (t : Trace) (k : ℕ) → k < l.c → count_of (spot_at l.self t) k ≡ (if leaves_of k (slice_index_or l.goes k None) t then count_of (slice_index_or l.rows k []) k else count_of (spot_at l.initial.self t) k);
  rest : (t : Trace) (k : ℕ) → l.c ≤ k → count_of (spot_at l.self t) k ≡ count_of (spot_at l.initial.self t) k;
}
