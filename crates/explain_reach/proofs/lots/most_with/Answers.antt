use Rattle.std.proofs.Common.{◌+◌, ℤ, List, [], ◌++◌, Option, Some, map, take, get_or, subst, sym, arith}
use Rattle.explain_reach.specs.Lots.{IsGreatest, greater}
use Rattle.explain_reach.specs.Reaches.{reach_of}
use Rattle.explain_reach.proofs.LotLaws.{greatest_more, one_more}
use Rattle.swept_boxes.specs.declared.Box3.{Box3}
use Rattle.explain_reach.proofs.lots.most_with.Goals as goal

pub loop-other-preserved : goal.loop-other-preserved
loop-other-preserved c numbers h =
    let d : Box3 = record { lo = []; hi = [] } in
    let n : ℤ = reach_of c.args.left.now (get_or c.args.right.now c.loop-other.other-index d) in
    subst (λ (most : Option ℤ). IsGreatest most (numbers ++ map (reach_of c.args.left.now) (take (c.loop-other.other-index + 1) c.args.right.now))) (sym c.greater-most.ensures)
    (subst (λ (ns : List ℤ). IsGreatest (Some (greater c.loop-other.most n)) ns) (one_more (reach_of c.args.left.now) numbers c.args.right.now c.loop-other.other-index d (omega arith))
    (greatest_more c.loop-other.most (numbers ++ map (reach_of c.args.left.now) (take c.loop-other.other-index c.args.right.now)) n (c.loop-other.invariant numbers h)))
