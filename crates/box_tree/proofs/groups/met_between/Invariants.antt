use Rattle.std.proofs.Common.{◌≡◌, ℕ, ◌<◌, ◌≤◌, ◌-◌, false, get_or}
use Rattle.swept_boxes.specs.Boxes.{boxes_meet}
use Rattle.swept_boxes.specs.declared.Box3.{Box3}
use Rattle.box_tree.proofs.groups.met_between.Given as goal

abbrev pub invariant-loop-place : goal.invariant-loop-place
invariant-loop-place l = record { on : l.from ≤ l.place; none : (k : ℕ) (d : Box3) → l.from ≤ k → k < l.place → boxes_meet (get_or l.boxes k d) l.met ≡ false }

abbrev pub decreases-loop-place : goal.decreases-loop-place
decreases-loop-place l = l.upto - l.place
