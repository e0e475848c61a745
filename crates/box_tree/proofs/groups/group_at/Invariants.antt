use Rattle.std.proofs.Common.{◌-◌, length}
use Rattle.box_tree.specs.Hulls.{IsGroup}
use Rattle.box_tree.proofs.groups.group_at.Given as goal

abbrev pub invariant-loop-next : goal.invariant-loop-next
invariant-loop-next l = IsGroup l.boxes l.place (record { hull = l.hull; next = l.next })

abbrev pub decreases-loop-next : goal.decreases-loop-next
decreases-loop-next l = length l.boxes - l.next
