use Rattle.nc_blocks.specs.Indices.{OperandFits}
use Rattle.nc_blocks.specs.Statement.{operand_view}
use Rattle.explain_readings.proofs.Steps.{holds_at}
use Rattle.explain_readings.proofs.reads.operands_read.Goals as goal

pub operand_reads-requires : goal.operand_reads-requires
operand_reads-requires g c = holds_at OperandFits operand_view c.args.operands.now c.loop-operand.operand-index c.operand-item.result c.requires c.loop-operand-test.true c.operand-item.is
