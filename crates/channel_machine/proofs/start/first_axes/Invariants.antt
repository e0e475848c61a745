-- The axes below the index stand, and there are no more of them than that.
use Rattle.std.proofs.Common.{◌≡◌, ◌≤◌}
use Rattle.std.specs.List.{filter_map, range_with_len}
use Rattle.arrayvec.specs.ArrayVec.{array_vec_len}
use Rattle.channel_machine.specs.StartStates.{axis_entry}
use Rattle.channel_machine.proofs.start.first_axes.Given as goal

abbrev pub invariant-loop-index : goal.invariant-loop-index
invariant-loop-index l = record {
  stand : l.axes.items ≡ filter_map (axis_entry l.job) (range_with_len 0 l.index);
  few : array_vec_len l.axes ≤ l.index;
}
