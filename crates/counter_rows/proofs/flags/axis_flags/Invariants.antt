use Rattle.std.proofs.Common.{◌≡◌, ℕ, ◌<◌, length}
use Rattle.axis_sets.specs.Sets.{has}
use Rattle.counter_rows.proofs.flags.axis_flags.Given as goal

abbrev pub invariant-loop-index : goal.invariant-loop-index
invariant-loop-index l = record {
  size : length l.flags ≡ length l.set;
  done : (k : ℕ) → k < l.index → has l.flags k ≡ has l.set k;
}
