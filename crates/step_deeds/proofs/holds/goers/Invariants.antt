use Rattle.axis_sets.specs.declared.limits.TheConstants.{CHANNEL_PLACES}
use Rattle.std.proofs.Common.{◌≡◌, ℕ, ◌<◌, length, None, get_or}
use Rattle.axis_sets.specs.Sets.{has}
use Rattle.step_deeds.proofs.holds.goers.Given as goal
use Rattle.step_deeds.specs.Holds.{is_given}

abbrev pub invariant-loop-c : goal.invariant-loop-c
invariant-loop-c l = record {
  size : length l.goes ≡ CHANNEL_PLACES;
  done : (k : ℕ) → k < l.c → has l.goes k ≡ is_given (get_or l.gone k None);
}
