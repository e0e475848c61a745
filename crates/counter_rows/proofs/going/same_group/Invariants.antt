use Rattle.axis_sets.specs.declared.limits.TheConstants.{CHANNEL_PLACES}
use Rattle.std.proofs.Common.{◌≡◌, ℕ, ◌<◌, ◌==◌, ◌&&◌, length, get_or}
use Rattle.axis_sets.specs.Sets.{has}
use Rattle.counter_rows.proofs.going.same_group.Given as goal

abbrev pub invariant-loop-c : goal.invariant-loop-c
invariant-loop-c l = record {
  size : length l.chosen ≡ CHANNEL_PLACES;
  done : (k : ℕ) → k < l.c → has l.chosen k ≡ (has l.goes k && (get_or l.group k 0 == l.number));
}
