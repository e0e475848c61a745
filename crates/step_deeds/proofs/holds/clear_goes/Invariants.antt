use Rattle.axis_sets.specs.declared.limits.TheConstants.{CHANNEL_PLACES}
use Rattle.std.proofs.Common.{◌≡◌, ℕ, ◌<◌, None, length}
use Rattle.std.specs.Prelude.{slice_index_or}
use Rattle.step_deeds.proofs.holds.clear_goes.Given as goal

abbrev pub invariant-loop-c : goal.invariant-loop-c
invariant-loop-c l = record {
  size : length l.gone ≡ CHANNEL_PLACES;
  done : (k : ℕ) → k < l.c → slice_index_or l.gone k None ≡ None;
}
