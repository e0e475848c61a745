use Rattle.std.proofs.Common.{◌≡◌, ◌++◌, map, take}
use Rattle.std.specs.List.{flat_map}
use Rattle.block_effects.specs.Words.{values_in}
use Rattle.nc_blocks.specs.Statement.{operand_view}
use Rattle.explain_assumptions.specs.Reads.{operand_reads}
use Rattle.explain_assumptions.proofs.reads.add_operands.Given as goal

abbrev pub invariant-loop-operand : goal.invariant-loop-operand
invariant-loop-operand l = l.remarks.items ≡ l.initial.remarks.items ++ flat_map (operand_reads (values_in l.parameters) l.fn.line) (map operand_view (take l.operand-index l.operands))
