use Rattle.number_laws.proofs.FractionLaws.{at_most_trans, at_most_total}
use Rattle.number_laws.proofs.fractions_are_ordered.Goals as goal

pub returns-clause-transitive : goal.returns-clause-transitive
returns-clause-transitive c = at_most_trans

pub returns-clause-total : goal.returns-clause-total
returns-clause-total c = at_most_total
