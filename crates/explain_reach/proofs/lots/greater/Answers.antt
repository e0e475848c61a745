use Rattle.std.proofs.Common.{rules, ◌∙◌, ℤ, Option, Some, ap, sym, w64}
use Rattle.std.proofs.lemmas.Int.{to_z-of_z}
use mir.Val.{SFits}
use Rattle.explain_reach.proofs.PartLaws.{over_is, under_is}
use Rattle.explain_reach.specs.Reaches.{reach_of}
use Rattle.explain_reach.proofs.lots.greater.Goals as goal

pub returns-then-is_over : goal.returns-then-is_over
returns-then-is_over c =
    let far : SFits w64 c.least_way.result.shift = search rules in
    ap (λ (n : ℤ). let o : Option ℤ = Some n in o) (to_z-of_z w64 c.least_way.result.shift far ∙ c.least_way.ensures.shift
    ∙ over_is c.args.most (reach_of c.args.left.now c.args.right.now) (sym c.is_over.ensures ∙ c.if-is_over.true))

pub returns-else-is_over : goal.returns-else-is_over
returns-else-is_over c = under_is c.args.most (reach_of c.args.left.now c.args.right.now) (sym c.is_over.ensures ∙ c.if-is_over.false)
