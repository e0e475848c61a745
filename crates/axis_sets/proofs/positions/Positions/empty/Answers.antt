use Rattle.std.proofs.Common.{◌∙◌}
use Rattle.axis_sets.proofs.KeptLaws.{length-where_known, position_of_other}
use Rattle.axis_sets.proofs.positions.Positions.empty.Goals as goal

pub returns-clause-none : goal.returns-clause-none
returns-clause-none c axis = position_of_other c.empty.result _ axis (c.empty.ensures.members axis)

pub returns-clause-size : goal.returns-clause-size
returns-clause-size c = length-where_known c.empty.result _ c.empty.ensures.size ∙ c.empty.ensures.size
