use Rattle.std.proofs.Common.{length, sym, ap, ◌∙◌}
use Rattle.axis_sets.specs.Positions.{position_of}
use Rattle.axis_sets.proofs.KeptLaws.{length-where_known, position_of_known, position_of_other}
use Rattle.axis_sets.proofs.positions.Positions.get.Goals as goal

pub returns-then-contains-clause-position : goal.returns-then-contains-clause-position
returns-then-contains-clause-position c = sym (ap (position_of c.args.self.now) (sym (c.from-place.ensures ∙ c.axis.view_is)) ∙ ap (λ p. position_of p c.from-place.result) (sym c.self.view_is)
    ∙ position_of_known c.self.inside.known c.self.inside.at c.from-place.result c.index-self-place.result c.self.invariant.size (sym c.if-contains.ensures.member))

pub returns-then-contains-clause-size : goal.returns-then-contains-clause-size
returns-then-contains-clause-size c = ap length (sym c.self.view_is) ∙ length-where_known c.self.inside.known c.self.inside.at c.self.invariant.size ∙ c.contains.ensures.size

pub returns-else-contains-clause-position : goal.returns-else-contains-clause-position
returns-else-contains-clause-position c = sym (ap (position_of c.args.self.now) (sym (c.from-place.ensures ∙ c.axis.view_is)) ∙ ap (λ p. position_of p c.from-place.result) (sym c.self.view_is)
    ∙ position_of_other c.self.inside.known c.self.inside.at c.from-place.result (sym c.if-contains.ensures.member))

pub returns-else-contains-clause-size : goal.returns-else-contains-clause-size
returns-else-contains-clause-size c = ap length (sym c.self.view_is) ∙ length-where_known c.self.inside.known c.self.inside.at c.self.invariant.size ∙ c.contains.ensures.size
