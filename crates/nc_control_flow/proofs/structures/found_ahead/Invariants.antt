use Rattle.std.proofs.Common.{◌≡◌, ℕ, ◌<◌, ◌≤◌, length, vec_len, drop, reverse, get_or, unwrap_or}
use Rattle.nc_control_flow.specs.Places.{with_places, those_after}
use Rattle.nc_control_flow.specs.Matching.{matching}
use Rattle.nc_control_flow.specs.Pending.{pending_places}
use Rattle.nc_control_flow.proofs.structures.found_ahead.Given as goal

abbrev pub invariant-loop-place : goal.invariant-loop-place
invariant-loop-place l = record {
  inside : l.place ≤ length l.parts;
  len : vec_len l.table ≡ length l.parts;
  stack : reverse l.pending.items ≡ pending_places l.sought (drop l.place (with_places l.parts));
  each : (k : ℕ) → l.place ≤ k → k < length l.parts → get_or l.table.items k 0 ≡ unwrap_or (matching l.sought 0 (those_after k l.parts)) 0;
}

abbrev pub decreases-loop-place : goal.decreases-loop-place
decreases-loop-place l = l.place
