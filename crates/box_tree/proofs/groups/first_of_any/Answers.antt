use Rattle.std.proofs.Common.{arith}
use Rattle.std.proofs.lemmas.List.{get_or_default}
use Rattle.box_tree.proofs.TreeLaws.{any_more}
use Rattle.box_tree.proofs.groups.first_of_any.Goals as goal

pub loop-met-preserved : goal.loop-met-preserved
loop-met-preserved c =
    any_more c.args.boxes.now c.args.right.now c.args.from c.loop-met.upto c.met_between-upto.result c.loop-met.met-index _ c.loop-met.invariant (omega arith)
    (λ e. get_or_default c.args.right.now c.loop-met.met-index e _ (omega arith)) c.met_between-upto.ensures.within c.met_between-upto.ensures.on c.met_between-upto.ensures.met c.met_between-upto.ensures.none
