use Rattle.std.proofs.Common.{◌≡◌, drop}
use Rattle.g_groups.specs.Modal.{has_group_twice}
use Rattle.g_groups.proofs.is_group_twice.Given as goal

abbrev pub invariant-loop-index : goal.invariant-loop-index
invariant-loop-index l = has_group_twice l.codes ≡ has_group_twice (drop l.index l.codes)
