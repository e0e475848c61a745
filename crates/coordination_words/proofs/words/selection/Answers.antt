use Rattle.nc_blocks.specs.Indices.{OperandFits}
use Rattle.nc_blocks.specs.Statement.{operand_view}
use Rattle.coordination_words.proofs.Arguments.{first_fits}
use Rattle.coordination_words.proofs.words.selection.Goals as goal

pub channel_in-requires : goal.channel_in-requires
channel_in-requires g c = first_fits OperandFits operand_view c.args.operands.now c.in-Some.first.now c.in-Some.others.now c.in-Some.ensures.cases.0 c.requires
