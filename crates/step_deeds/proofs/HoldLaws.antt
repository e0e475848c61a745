-- Past the end nobody goes on.
use Rattle.std.proofs.Common.{◌≡◌, ℕ, ◌≤◌, false, List, Option, None, length, slice_index_or, ap}
use Rattle.std.proofs.Math.ListN.{get_or-eq_default}
use Rattle.step_deeds.specs.Holds.{is_given}
use Rattle.step_deeds.specs.declared.deed.Wakeup.{Wakeup}

pub past_gone : (goes : List (Option Wakeup)) (c : ℕ) → length goes ≤ c → is_given (slice_index_or goes c None) ≡ false
past_gone goes c past = ap is_given (get_or-eq_default goes None past)
