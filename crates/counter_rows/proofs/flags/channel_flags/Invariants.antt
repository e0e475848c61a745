use Rattle.std.proofs.Common.{◌≡◌, ℕ, ◌<◌, ◌≤◌, length, false}
use Rattle.axis_sets.specs.Sets.{has}
use Rattle.counter_rows.proofs.flags.channel_flags.Given as goal

abbrev pub invariant-loop-number : goal.invariant-loop-number
invariant-loop-number l = record {
  size : length l.flags ≡ length l.set;
  from : 1 ≤ l.number;
  none : has l.flags 0 ≡ false;
  zero : 1 < l.number → has l.set 0 ≡ false;
  done : (k : ℕ) → 1 ≤ k → k < l.number → has l.flags k ≡ has l.set k;
}
