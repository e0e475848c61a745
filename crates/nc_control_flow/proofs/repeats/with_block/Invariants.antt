use Rattle.std.proofs.Common.{◌≡◌, ◌≤◌, take}
use Rattle.std.specs.Prelude.{filter}
use Rattle.arrayvec.specs.ArrayVec.{array_vec_len}
use Rattle.nc_control_flow.specs.Repetitions.{is_within}
use Rattle.nc_control_flow.proofs.repeats.with_block.Given as goal

abbrev pub invariant-loop-one : goal.invariant-loop-one
invariant-loop-one l = record {
  few : array_vec_len l.kept ≤ l.one-index;
  kept : l.kept.items ≡ filter (is_within l.place) (take l.one-index l.running);
}
