use Rattle.std.proofs.Common.{sym}
use Rattle.explain_reach.proofs.ShapeLaws.{parts}
use Rattle.explain_clashes.proofs.clashes.clash_of.Goals as goal

pub returns-clause-parted : goal.returns-clause-parted
returns-clause-parted c = parts _ _ _ _ c.way_for.ensures.in_space (sym c.way_for.ensures.shift)
