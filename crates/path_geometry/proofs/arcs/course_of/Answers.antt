use Rattle.std.proofs.Common.{rules}
use Rattle.path_geometry.proofs.EndsLaws.{found_in_range}
use Rattle.path_geometry.proofs.arcs.course_of.Goals as goal

pub returns-in-Some-clause-start_range : goal.returns-in-Some-clause-start_range
returns-in-Some-clause-start_range c = (found_in_range c.args.ends.now c.args.axis c.in-Some.entry c.requires (search rules)).0

pub returns-in-Some-clause-end_range : goal.returns-in-Some-clause-end_range
returns-in-Some-clause-end_range c = (found_in_range c.args.ends.now c.args.axis c.in-Some.entry c.requires (search rules)).1
