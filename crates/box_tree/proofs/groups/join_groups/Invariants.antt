use Rattle.box_tree.specs.Hulls.{AreGroups}
use Rattle.box_tree.proofs.groups.join_groups.Given as goal

abbrev pub invariant-loop-done : goal.invariant-loop-done
invariant-loop-done l = AreGroups l.boxes l.groups
