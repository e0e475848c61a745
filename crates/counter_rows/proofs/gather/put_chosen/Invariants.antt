use Rattle.std.proofs.Common.{◌≡◌, ℕ, ◌<◌, ◌≤◌, length, [], get_or, if◌then◌else◌}
use Rattle.axis_sets.specs.Sets.{has}
use Rattle.counter_rows.proofs.gather.put_chosen.Given as goal

abbrev pub invariant-loop-m : goal.invariant-loop-m
invariant-loop-m g l = record {
  size : length l.rows ≡ g.row.N;
  done : (k : ℕ) → k < l.m → get_or l.rows k [] ≡ (if has l.chosen k then l.row else get_or l.initial.rows k []);
  rest : (k : ℕ) → l.m ≤ k → get_or l.rows k [] ≡ get_or l.initial.rows k [];
}
