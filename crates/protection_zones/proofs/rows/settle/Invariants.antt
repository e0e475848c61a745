use Rattle.std.proofs.Common.{◌≡◌, ℕ, ◌<◌, length}
use Rattle.axis_sets.specs.declared.limits.TheConstants.{AXIS_LIMIT}
use Rattle.zone_stretches.specs.Rows.{positions_in}
use Rattle.protection_zones.proofs.rows.settle.Given as goal
use Rattle.zone_stretches.specs.ZoneBoxes.{stand_after}

abbrev pub invariant-loop-index : goal.invariant-loop-index
invariant-loop-index l = record {
  put : (k : ℕ) → k < l.index → positions_in l.row k ≡ stand_after l.item (positions_in l.before) k;
  long : length l.row ≡ AXIS_LIMIT;
}
