use Rattle.std.proofs.Common.{◌≡◌, ℕ, ◌<◌, false, None, slice_index_or}
use Rattle.step_deeds.specs.Holds.{is_given}
use Rattle.step_deeds.proofs.holds.is_nobody.Given as goal

abbrev pub invariant-loop-c : goal.invariant-loop-c
invariant-loop-c l = (k : ℕ) → k < l.c → is_given (slice_index_or l.gone k None) ≡ false
