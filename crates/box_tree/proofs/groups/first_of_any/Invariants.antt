use Rattle.box_tree.specs.Firsts.{IsFirstOfAny}
use Rattle.box_tree.proofs.groups.first_of_any.Given as goal

abbrev pub invariant-loop-met : goal.invariant-loop-met
invariant-loop-met l = IsFirstOfAny l.boxes l.right l.from l.upto l.met-index
