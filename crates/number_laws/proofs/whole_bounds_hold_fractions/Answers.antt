use Rattle.number_laws.proofs.FractionLaws.{in_from_same, whole_through}
use Rattle.number_laws.proofs.whole_bounds_hold_fractions.Goals as goal

pub returns-clause-same : goal.returns-clause-same
returns-clause-same c = λ low high p q some same within. in_from_same low high p.top q.top p.under q.under some same within

pub returns-clause-through : goal.returns-clause-through
returns-clause-through c = whole_through
