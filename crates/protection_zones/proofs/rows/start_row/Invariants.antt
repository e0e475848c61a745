use Rattle.std.proofs.Common.{◌≡◌, ℕ, ◌<◌, length}
use Rattle.axis_sets.specs.declared.limits.TheConstants.{AXIS_LIMIT}
use Rattle.zone_stretches.specs.Rows.{positions_in}
use Rattle.protection_zones.proofs.rows.start_row.Given as goal
use Rattle.job_types.specs.Axes.{start_position}

abbrev pub invariant-loop-index : goal.invariant-loop-index
invariant-loop-index l = record {
  put : (k : ℕ) → k < l.index → positions_in l.row k ≡ start_position l.job k;
  long : length l.row ≡ AXIS_LIMIT;
}
