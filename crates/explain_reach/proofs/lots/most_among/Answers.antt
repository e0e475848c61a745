use Rattle.std.proofs.Common.{ℤ, List, [], ◌++◌, take, subst, arith}
use Rattle.explain_reach.specs.Lots.{IsGreatest, reaches}
use Rattle.explain_reach.proofs.LotLaws.{one_more_of_all}
use Rattle.swept_boxes.specs.declared.Box3.{Box3}
use Rattle.explain_reach.proofs.lots.most_among.Goals as goal

pub loop-own-preserved : goal.loop-own-preserved
loop-own-preserved c numbers h =
    let d : Box3 = record { lo = []; hi = [] } in
    subst (λ (ns : List ℤ). IsGreatest c.most_with-most.result ns) (one_more_of_all numbers c.args.left.now c.args.right.now c.loop-own.own-index d (omega arith))
    (c.most_with-most.ensures (numbers ++ reaches (take c.loop-own.own-index c.args.left.now) c.args.right.now) (c.loop-own.invariant numbers h))
