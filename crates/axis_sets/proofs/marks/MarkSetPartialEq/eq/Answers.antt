use Rattle.std.proofs.Common.{◌≡◌, ◌&&◌, Bool, false, refl, sym, ap, ◌∙◌, length}
use Rattle.std.proofs.Math.Bool.{beq}
use Rattle.std.specs.Cmp.Lexicographic.{pointwise}
use Rattle.axis_sets.proofs.MarkLaws.{same_halves}
use Rattle.axis_sets.proofs.marks.MarkSetPartialEq.eq.Goals as goal

pub returns-then-eq : goal.returns-then-eq
returns-then-eq c =
    c.eq-then-eq.ensures
    ∙ ap (λ (b : Bool). b && pointwise beq c.self.inside.high c.other.inside.high) c.if-eq.ensures
    ∙ sym (same_halves c.self.inside.low c.self.inside.high c.other.inside.low c.other.inside.high (c.self.invariant.0 ∙ sym c.other.invariant.0))
    ∙ rw (c.self.view_is, c.other.view_is) refl

pub returns-else-eq : goal.returns-else-eq
returns-else-eq c =
    c.if-eq.false
    ∙ ap (λ (b : Bool). b && pointwise beq c.self.inside.high c.other.inside.high) c.if-eq.ensures
    ∙ sym (same_halves c.self.inside.low c.self.inside.high c.other.inside.low c.other.inside.high (c.self.invariant.0 ∙ sym c.other.invariant.0))
    ∙ rw (c.self.view_is, c.other.view_is) refl
