use Rattle.std.proofs.Common.{◌≡◌, drop, map}
use Rattle.std.specs.List.{list_any}
use Rattle.nc_blocks.specs.Statement.{operand_view}
use Rattle.explain_readings.specs.Reads.{operand_reads}
use Rattle.explain_readings.proofs.reads.operands_read.Given as goal

abbrev pub invariant-loop-operand : goal.invariant-loop-operand
invariant-loop-operand g l =
    list_any (operand_reads (g.N.Names.values l.names) l.fn.number) (map operand_view (drop l.operand-index l.operands)) ≡ list_any (operand_reads (g.N.Names.values l.names) l.fn.number) (map operand_view l.operands)
