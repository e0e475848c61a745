use Rattle.std.proofs.Common.{slice_set, refl, sym, ◌∙◌, pos}
use Rattle.std.proofs.lemmas.List.{length-set}
use Rattle.axis_sets.proofs.KeptLaws.{length-where_known, position_of_removed}
use Rattle.axis_sets.proofs.positions.Positions.remove.Goals as goal

pub returns-clause-positions : goal.returns-clause-positions
returns-clause-positions c axis = position_of_removed c.self.inside.known c.without-self-inside.result c.self.inside.at c.from-place.result (pos 0) c.self.invariant.size (c.without-self-inside.ensures.size ∙ sym c.self.invariant.axes) c.without-self-inside.ensures.members axis ∙ rw (c.self.view_is, c.from-place.ensures, c.axis.view_is) refl

pub returns-clause-size : goal.returns-clause-size
returns-clause-size c = length-where_known c.without-self-inside.result (slice_set c.self.inside.at c.from-place.result (pos 0)) (c.without-self-inside.ensures.size ∙ sym c.self.invariant.axes ∙ sym (length-set c.self.inside.at c.from-place.result (pos 0))) ∙ c.without-self-inside.ensures.size
