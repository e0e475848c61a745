use Rattle.std.proofs.Common.{ℤ, List, ◌++◌, take, subst, arith}
use Rattle.std.specs.List.{flat_map}
use Rattle.explain_reach.proofs.PartLaws.{reaches_by_more}
use Rattle.explain_reach.specs.Lots.{IsGreatest, reaches}
use Rattle.explain_reach.specs.Parts.{boxes_in}
use Rattle.explain_reach.specs.declared.parts.Part.{Part}
use Rattle.explain_reach.proofs.parted.most_of.Goals as goal

pub loop-own-preserved : goal.loop-own-preserved
loop-own-preserved c numbers h =
    subst (λ (ns : List ℤ). IsGreatest c.most_within-most.result ns)
    (reaches_by_more numbers c.args.owns.now (flat_map boxes_in c.args.others.now) c.loop-own.own-index c.own-item.result (omega arith))
    (subst (λ (o : Part). IsGreatest c.most_within-most.result ((numbers ++ reaches (flat_map boxes_in (take c.loop-own.own-index c.args.owns.now)) (flat_map boxes_in c.args.others.now)) ++ reaches (boxes_in o) (flat_map boxes_in c.args.others.now)))
    c.own-item.is
    (c.most_within-most.ensures (numbers ++ reaches (flat_map boxes_in (take c.loop-own.own-index c.args.owns.now)) (flat_map boxes_in c.args.others.now)) (c.loop-own.invariant numbers h)))
