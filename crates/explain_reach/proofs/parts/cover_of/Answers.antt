use Rattle.std.proofs.Common.{List, [], All, take, get_or, sym, subst, arith}
use Rattle.std.proofs.lemmas.List.{take_more}
use Rattle.std.proofs.lemmas.List.Elements.{All-push, All-weaker}
use Rattle.explain_reach.proofs.PartLaws.{lies_over}
use Rattle.explain_reach.specs.Parts.{LiesIn}
use Rattle.swept_boxes.specs.declared.Box3.{Box3}
use Rattle.explain_reach.proofs.parts.cover_of.Goals as goal

pub loop-other-preserved : goal.loop-other-preserved
loop-other-preserved c =
    let d : Box3 = record { lo = []; hi = [] } in
    subst (λ (bs : List Box3). All (LiesIn c.joined-cover.result) bs) (sym (take_more c.args.boxes.now c.loop-other.other-index d (omega arith)))
    (All-push (LiesIn c.joined-cover.result) (take c.loop-other.other-index c.args.boxes.now) (get_or c.args.boxes.now c.loop-other.other-index d)
    (All-weaker (LiesIn c.loop-other.cover) (LiesIn c.joined-cover.result) (λ x lies. lies_over c.joined-cover.result c.loop-other.cover x c.joined-cover.ensures.left lies)
    (take c.loop-other.other-index c.args.boxes.now) c.loop-other.invariant)
    c.joined-cover.ensures.right)
