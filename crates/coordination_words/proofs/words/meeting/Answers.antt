use Rattle.nc_blocks.specs.Indices.{OperandFits}
use Rattle.nc_blocks.specs.Statement.{operand_view}
use Rattle.coordination_words.proofs.Arguments.{first_fits, rest_fits}
use Rattle.coordination_words.proofs.words.meeting.Goals as goal

pub mark_in-requires : goal.mark_in-requires
mark_in-requires g c = first_fits OperandFits operand_view c.args.operands.now c.in-Some.first.now c.in-Some.others.now c.in-Some.ensures.cases.0 c.requires

pub channels_in-requires : goal.channels_in-requires
channels_in-requires g c = rest_fits OperandFits operand_view c.args.operands.now c.in-Some.first.now c.in-Some.others.now c.in-Some.ensures.cases.0 c.requires
