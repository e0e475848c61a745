use Rattle.std.proofs.Common.{◌≡◌, ℕ, suc, ◌<◌, ◌≤◌, if◌then◌else◌}
use Rattle.axis_sets.specs.Sets.{has}
use Rattle.counter_rows.specs.Rows.{count_of}
use Rattle.counter_rows.proofs.gather.count_chosen.Given as goal

abbrev pub invariant-loop-c : goal.invariant-loop-c
invariant-loop-c l = record {
  done : (k : ℕ) → k < l.c → count_of l.counted k ≡ (if has l.chosen k then suc (count_of l.fn.row k) else count_of l.fn.row k);
  rest : (k : ℕ) → l.c ≤ k → count_of l.counted k ≡ count_of l.fn.row k;
}
