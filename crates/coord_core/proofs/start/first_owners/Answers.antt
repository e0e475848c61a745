use Rattle.std.proofs.Common.{arith}
use Rattle.coord_core.proofs.Starting.{all_owned, owned_at_first}
use Rattle.coord_core.proofs.start.first_owners.Goals as goal

pub returns-clause-owners : goal.returns-clause-owners
returns-clause-owners c =
    owned_at_first c.new.result c.loop-index.all c.args.lines.now c.axes_of-known.result c.loop-index.invariant.0 (λ k d below. c.loop-index.invariant.1 k d (omega arith)) c.new.ensures.states c.axes_of-known.ensures.members c.axes_of-known.ensures.size

pub returns-clause-all : goal.returns-clause-all
returns-clause-all c = all_owned c.new.result c.loop-index.all _ _ c.loop-index.invariant.0 (λ k d below. c.loop-index.invariant.1 k d (omega arith)) c.new.ensures.states
