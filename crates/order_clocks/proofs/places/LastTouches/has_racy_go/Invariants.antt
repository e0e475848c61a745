use Rattle.std.proofs.Common.{◌≡◌, ℕ, ◌<◌, ◌≤◌, ◌==◌, false, [], None, slice_index_or}
use Rattle.counter_rows.specs.Rows.{top}
use Rattle.counter_rows.specs.Rows.{count_of}
use Rattle.order_clocks.specs.LastPlaces.{spot_at, departure_minds}
use Rattle.order_clocks.proofs.places.LastTouches.has_racy_go.Given as goal

abbrev pub invariant-loop-c : goal.invariant-loop-c
invariant-loop-c l = (k d : ℕ) → k < l.c → (d == k) ≡ false → top (λ t. count_of (spot_at l.self t) d) (departure_minds k (slice_index_or l.goes k None)) ≤ count_of (slice_index_or l.rows k []) d
