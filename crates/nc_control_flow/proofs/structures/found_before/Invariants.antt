use Rattle.std.proofs.Common.{◌≡◌, ℕ, ◌<◌, vec_len, reverse, get_or, unwrap_or}
use Rattle.nc_control_flow.specs.Places.{those_before}
use Rattle.nc_control_flow.specs.Matching.{matching}
use Rattle.nc_control_flow.specs.Pending.{pending_places}
use Rattle.nc_control_flow.proofs.structures.found_before.Given as goal

abbrev pub invariant-loop-place : goal.invariant-loop-place
invariant-loop-place l = record {
  len : vec_len l.table ≡ l.place;
  stack : reverse l.pending.items ≡ pending_places l.sought (those_before l.place l.parts);
  each : (k : ℕ) → k < l.place → get_or l.table.items k 0 ≡ unwrap_or (matching l.sought 0 (those_before k l.parts)) 0;
}
