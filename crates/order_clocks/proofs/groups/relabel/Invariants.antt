use Rattle.axis_sets.specs.declared.limits.TheConstants.{CHANNEL_PLACES}
use Rattle.std.proofs.Common.{◌≡◌, ℕ, ◌<◌, ◌≤◌, ◌==◌, length, if◌then◌else◌}
use Rattle.std.specs.Prelude.{slice_index}
use Rattle.order_clocks.proofs.groups.relabel.Given as goal

abbrev pub invariant-loop-c : goal.invariant-loop-c
invariant-loop-c l = record {
  size : length l.group ≡ CHANNEL_PLACES;
  done : (k : ℕ) → k < l.c → slice_index l.group k ≡ (if slice_index l.initial.group k == l.old then l.new else slice_index l.initial.group k);
  rest : (k : ℕ) → l.c ≤ k → slice_index l.group k ≡ slice_index l.initial.group k;
}
