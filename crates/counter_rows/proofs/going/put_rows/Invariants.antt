use Rattle.axis_sets.specs.declared.limits.TheConstants.{CHANNEL_PLACES}
use Rattle.std.proofs.Common.{◌≡◌, ℕ, ◌<◌, ◌≤◌, length, [], get_or, if◌then◌else◌}
use Rattle.axis_sets.specs.Sets.{has}
use Rattle.counter_rows.proofs.going.put_rows.Given as goal

abbrev pub invariant-loop-c : goal.invariant-loop-c
invariant-loop-c l = record {
  size : length l.past ≡ CHANNEL_PLACES;
  done : (k : ℕ) → k < l.c → get_or l.past k [] ≡ (if has l.chosen k then get_or l.rows k [] else get_or l.initial.past k []);
  rest : (k : ℕ) → l.c ≤ k → get_or l.past k [] ≡ get_or l.initial.past k [];
}
