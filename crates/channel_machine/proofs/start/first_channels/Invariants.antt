-- The channels below the index stand, and there are no more of them than that.
use Rattle.std.proofs.Common.{◌≡◌, ◌≤◌}
use Rattle.std.specs.List.{filter_map, range_with_len}
use Rattle.arrayvec.specs.ArrayVec.{array_vec_len}
use Rattle.channel_machine.specs.StartStates.{channel_entry}
use Rattle.channel_machine.proofs.start.first_channels.Given as goal

abbrev pub invariant-loop-index : goal.invariant-loop-index
invariant-loop-index l = record {
  stand : l.channels.items ≡ filter_map (channel_entry l.job) (range_with_len 1 l.index);
  few : array_vec_len l.channels ≤ l.index;
}
