use Rattle.nc_blocks.specs.Indices.{OperandFits}
use Rattle.nc_blocks.specs.Statement.{operand_view}
use Rattle.coordination_words.proofs.Arguments.{first_fits, rest_fits}
use Rattle.coordination_words.proofs.words.switching.Goals as goal

pub zone_in-requires : goal.zone_in-requires
zone_in-requires g c = first_fits OperandFits operand_view c.args.operands.now c.in-Some.first.now c.in-Some.others.now c.in-Some.ensures.cases.0 c.requires

pub state_in-requires : goal.state_in-requires
state_in-requires g c =
    let others = rest_fits OperandFits operand_view c.args.operands.now c.in-Some.first.now c.in-Some.others.now c.in-Some.ensures.cases.0 c.requires in
    first_fits OperandFits operand_view c.in-Some.others.now c.in-Some-split_first.second.now c.in-Some-split_first.field-0-1.now c.in-Some-split_first.ensures.cases.0 others
