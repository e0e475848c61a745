use Rattle.std.proofs.Common.{◌≡◌, ℕ, ◌<◌, ◌≤◌, length}
use Rattle.axis_sets.specs.declared.limits.TheConstants.{AXIS_LIMIT}
use Rattle.zone_stretches.specs.Rows.{positions_in}
use Rattle.protection_zones.proofs.rows.put.Given as goal
use Rattle.std.specs.Prelude.{unwrap_or}
use Rattle.axis_sets.specs.Positions.{position_of}

abbrev pub invariant-loop-index : goal.invariant-loop-index
invariant-loop-index l = record {
  put : (k : ℕ) → k < l.index → positions_in l.row k ≡ unwrap_or (position_of l.at k) (positions_in l.initial.row k);
  kept : (k : ℕ) → l.index ≤ k → positions_in l.row k ≡ positions_in l.initial.row k;
  size : 0 < l.index → length l.at ≡ AXIS_LIMIT;
  long : length l.row ≡ AXIS_LIMIT;
}
