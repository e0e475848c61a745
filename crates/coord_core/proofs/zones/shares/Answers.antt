use Rattle.std.proofs.Common.{not, ap, ◌∙◌}
use Rattle.axis_sets.specs.Sets.{has, members_of}
use Rattle.coord_core.proofs.Members.{some_pass_where}
use Rattle.coord_core.proofs.zones.shares.Goals as goal

pub returns : goal.returns
returns c = ap not c.has_none.ensures ∙ some_pass_where (has c.args.carrying) (members_of c.args.axes)
