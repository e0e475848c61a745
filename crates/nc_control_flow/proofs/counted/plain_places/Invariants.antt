use Rattle.std.proofs.Common.{◌≡◌, ℕ, ◌<◌, ◌≤◌, length, vec_len, get_or}
use Rattle.nc_control_flow.specs.Parts.{views}
use Rattle.nc_control_flow.specs.Counted.{plain_from}
use Rattle.nc_control_flow.proofs.counted.plain_places.Given as goal

abbrev pub invariant-loop-place : goal.invariant-loop-place
invariant-loop-place l = record {
  inside : l.place ≤ length l.blocks;
  len : vec_len l.plain ≡ length l.blocks;
  nearest : l.nearest ≡ plain_from (views l.blocks) l.place;
  each : (k : ℕ) → l.place ≤ k → k < length l.blocks → get_or l.plain.items k 0 ≡ plain_from (views l.blocks) k;
}

abbrev pub decreases-loop-place : goal.decreases-loop-place
decreases-loop-place l = l.place
