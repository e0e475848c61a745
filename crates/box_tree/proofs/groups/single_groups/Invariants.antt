use Rattle.std.proofs.Common.{◌≡◌, length}
use Rattle.box_tree.proofs.HullLaws.{GroupsUpto}
use Rattle.box_tree.proofs.groups.single_groups.Given as goal

abbrev pub invariant-loop-place : goal.invariant-loop-place
invariant-loop-place l = record { count : length l.groups.items ≡ l.place; each : GroupsUpto l.boxes l.groups.items l.place }
