use Rattle.block_effects.specs.Words.{values_in}
use Rattle.explain_readings.proofs.Steps.{holds_at}
use Rattle.nc_blocks.specs.Indices.{OperandFits}
use Rattle.nc_blocks.specs.Statement.{operand_view}
use Rattle.explain_assumptions.proofs.ListLaws.{viewed_more}
use Rattle.explain_assumptions.specs.Reads.{operand_reads}
use Rattle.explain_assumptions.proofs.reads.add_operands.Goals as goal

pub add_operand-requires : goal.add_operand-requires
add_operand-requires c = holds_at OperandFits operand_view c.args.operands.now c.loop-operand.operand-index c.operand-item.result c.requires c.loop-operand-test.true c.operand-item.is

pub loop-operand-preserved : goal.loop-operand-preserved
loop-operand-preserved c =
    viewed_more (operand_reads (values_in c.args.parameters.now) c.args.line) operand_view c.args.operands.now c.loop-operand.operand-index c.operand-item.result c.args.remarks.now.items c.loop-operand.remarks.items c.add_operand.new.remarks.items
    c.loop-operand-test.true c.operand-item.is c.loop-operand.invariant c.in_ok-add_operand.ensures
