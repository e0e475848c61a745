use Rattle.std.proofs.Common.{◌↔◌, sym, subst}
use Rattle.swept_boxes.specs.Boxes.{SpacePoint, IsInBox}
use Rattle.swept_boxes.specs.declared.Box3.{Box3}
use Rattle.explain_reach.proofs.ShapeLaws.{points_in_common}
use Rattle.explain_reach.proofs.commons.common_box.Goals as goal

pub returns-clause-points : goal.returns-clause-points
returns-clause-points c =
    subst (λ (b : Box3). (point : SpacePoint) → IsInBox b point ↔ (IsInBox c.args.left.now point × IsInBox c.args.right.now point)) (sym c.box_in_common.ensures)
    (points_in_common c.args.left.now c.args.right.now)
