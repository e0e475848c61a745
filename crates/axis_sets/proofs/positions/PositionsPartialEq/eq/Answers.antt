use Rattle.std.proofs.Common.{refl, ◌∙◌}
use Rattle.axis_sets.proofs.KeptLaws.{same_axes, other_axes}
use Rattle.axis_sets.proofs.positions.PositionsPartialEq.eq.Goals as goal

pub returns-then-eq : goal.returns-then-eq
returns-then-eq c = c.eq-then-eq.ensures ∙ same_axes c.self.inside.known c.other.inside.known c.self.inside.at c.other.inside.at c.self.invariant c.other.invariant c.if-eq.ensures ∙ rw (c.self.view_is, c.other.view_is) refl

pub returns-else-eq : goal.returns-else-eq
returns-else-eq c = c.if-eq.false ∙ other_axes c.self.inside.known c.other.inside.known c.self.inside.at c.other.inside.at c.self.invariant c.other.invariant c.if-eq.ensures ∙ rw (c.self.view_is, c.other.view_is) refl
