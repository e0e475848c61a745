use Rattle.axis_sets.specs.declared.limits.TheConstants.{CHANNEL_PLACES}
use Rattle.std.proofs.Common.{◌≡◌, ℕ, ◌<◌, ◌≤◌, max, length, get_or}
use Rattle.counter_rows.proofs.row.VectorClock.most.Given as goal

abbrev pub invariant-loop-c : goal.invariant-loop-c
invariant-loop-c l = record {
  size : length l.self-inside.counts ≡ CHANNEL_PLACES;
  done : (k : ℕ) → k < l.c → get_or l.self-inside.counts k 0 ≡ max (get_or l.initial.self-inside.counts k 0) (get_or l.other-inside.counts k 0);
  rest : (k : ℕ) → l.c ≤ k → get_or l.self-inside.counts k 0 ≡ get_or l.initial.self-inside.counts k 0;
}
