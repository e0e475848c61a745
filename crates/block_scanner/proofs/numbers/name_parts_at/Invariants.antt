use Rattle.std.proofs.Common.{◌≡◌, ◌+◌, ◌-◌, ◌≤◌, length, drop}
use Rattle.std.specs.List.{prefix_len}
use Rattle.block_scanner.specs.Bytes.{is_name_part}
use Rattle.block_scanner.proofs.numbers.name_parts_at.Given as goal

abbrev pub invariant-loop-count : goal.invariant-loop-count
invariant-loop-count l = record {
  within : l.count ≤ length l.bytes;
  so_far : l.count + prefix_len is_name_part (drop l.count l.bytes) ≡ prefix_len is_name_part l.bytes;
}

abbrev pub decreases-loop-count : goal.decreases-loop-count
decreases-loop-count l = length l.bytes - l.count
