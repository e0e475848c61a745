use Rattle.std.proofs.Common.{◌≡◌, ℕ, ◌<◌, ◌-◌, false, get_or, length}
use Rattle.swept_boxes.specs.Boxes.{boxes_meet}
use Rattle.swept_boxes.specs.declared.Box3.{Box3}
use Rattle.box_tree.proofs.groups.do_groups_meet.Given as goal

abbrev pub invariant-loop-place : goal.invariant-loop-place
invariant-loop-place l = (k m : ℕ) (d e : Box3) → k < l.place → m < length l.others → boxes_meet (get_or l.boxes k d) (get_or l.others m e) ≡ false

abbrev pub decreases-loop-place : goal.decreases-loop-place
decreases-loop-place l = length l.boxes - l.place
