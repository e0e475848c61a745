use Rattle.std.proofs.Common.{slice_set, refl, sym, ◌∙◌, arith}
use Rattle.std.proofs.lemmas.List.{length-set}
use Rattle.axis_sets.proofs.KeptLaws.{length-where_known, position_of_put}
use Rattle.axis_sets.proofs.positions.Positions.set.Goals as goal

pub returns-clause-positions : goal.returns-clause-positions
returns-clause-positions c axis = position_of_put c.self.inside.known c.with-self-inside.result c.self.inside.at c.from-place.result c.args.at c.self.invariant.size (c.with-self-inside.ensures.size ∙ sym c.self.invariant.axes) (omega (arith, c.self.invariant.axes, c.from-place.ensures, c.axis.invariant)) c.with-self-inside.ensures.members axis ∙ rw (c.self.view_is, c.from-place.ensures, c.axis.view_is) refl

pub returns-clause-size : goal.returns-clause-size
returns-clause-size c = length-where_known c.with-self-inside.result (slice_set c.self.inside.at c.from-place.result c.args.at) (c.with-self-inside.ensures.size ∙ sym c.self.invariant.axes ∙ sym (length-set c.self.inside.at c.from-place.result c.args.at)) ∙ c.with-self-inside.ensures.size
