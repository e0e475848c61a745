use Rattle.std.proofs.Common.{◌≡◌, ℕ, nat_lt, ◌&&◌, length}
use Rattle.axis_sets.specs.Sets.{has}
use Rattle.job_types.proofs.job.ZoneLine.carriers.Given as goal
use Rattle.job_types.specs.Zones.{has_axis}
use Rattle.axis_sets.specs.declared.limits.TheConstants.{AXIS_LIMIT}

abbrev pub invariant-loop-index : goal.invariant-loop-index
invariant-loop-index l = record {
  put : (m : ℕ) → has l.axes m ≡ (nat_lt m l.index && has_axis l.self m);
  long : length l.axes ≡ AXIS_LIMIT;
}
