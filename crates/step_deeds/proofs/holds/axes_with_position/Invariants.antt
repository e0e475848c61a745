use Rattle.axis_sets.specs.declared.limits.TheConstants.{AXIS_LIMIT}
use Rattle.std.proofs.Common.{◌≡◌, ℕ, ◌<◌, ◌≤◌, length, false}
use Rattle.std.specs.Prelude.{is_some}
use Rattle.axis_sets.specs.Positions.{position_of}
use Rattle.axis_sets.specs.Sets.{has}
use Rattle.step_deeds.proofs.holds.axes_with_position.Given as goal

abbrev pub invariant-loop-index : goal.invariant-loop-index
invariant-loop-index l = record {
  size : 0 < l.index → length l.at ≡ AXIS_LIMIT;
  done : (x : ℕ) → x < l.index → has l.axes x ≡ is_some (position_of l.at x);
  rest : (x : ℕ) → l.index ≤ x → has l.axes x ≡ false;
}
