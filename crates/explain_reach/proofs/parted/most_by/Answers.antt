use Rattle.std.proofs.Common.{ℤ, List, ◌++◌, take, sym, subst, arith}
use Rattle.std.specs.List.{flat_map}
use Rattle.explain_reach.proofs.PartLaws.{greatest_by_more, no_reaches}
use Rattle.explain_reach.specs.Lots.{IsGreatest, reaches}
use Rattle.explain_reach.specs.Parts.{boxes_in}
use Rattle.explain_reach.specs.declared.parts.Part.{Part}
use Rattle.explain_reach.proofs.parted.most_by.Goals as goal

pub loop-place-init : goal.loop-place-init
loop-place-init c numbers h = subst (λ (ns : List ℤ). IsGreatest c.args.before ns) (sym (no_reaches numbers (boxes_in c.args.own.now))) h

pub loop-place-preserved : goal.loop-place-preserved
loop-place-preserved c numbers h =
    greatest_by_more c.most_between-most.result numbers (boxes_in c.args.own.now) c.args.others.now c.loop-place.place c.index-others-place.result (omega arith)
    (subst (λ (o : Part). IsGreatest c.most_between-most.result ((numbers ++ reaches (boxes_in c.args.own.now) (flat_map boxes_in (take c.loop-place.place c.args.others.now))) ++ reaches (boxes_in c.args.own.now) (boxes_in o)))
    c.index-others-place.is
    (c.most_between-most.ensures (numbers ++ reaches (boxes_in c.args.own.now) (flat_map boxes_in (take c.loop-place.place c.args.others.now))) (c.loop-place.invariant numbers h)))
