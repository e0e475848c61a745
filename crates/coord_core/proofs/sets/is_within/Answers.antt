use Rattle.axis_sets.specs.Sets.{has}
use Rattle.coord_core.proofs.Members.{none_fails}
use Rattle.coord_core.proofs.sets.is_within.Goals as goal

pub returns-clause-within : goal.returns-clause-within
returns-clause-within c = none_fails c.args.named (has c.args.set) c.minus.result c.is_empty.result c.minus.ensures.members c.is_empty.ensures.empty
