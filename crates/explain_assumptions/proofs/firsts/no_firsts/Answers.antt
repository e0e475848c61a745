use Rattle.explain_assumptions.proofs.FirstLaws.{none_of, none_only}
use Rattle.explain_assumptions.proofs.firsts.no_firsts.Goals as goal

pub returns : goal.returns
returns c = λ key. none_of key c.in_ok-table.table.items (c.in_ok-table.ensures.items_if_clones_equal (none_only _ (λ x is. is)))
