use Rattle.std.proofs.Common.{rules, ◌≡◌, refl, w32}
use mir.Val.{to_z, of_z, SFits}
use Rattle.explain_reach.proofs.ShapeLaws.{stored}
use Rattle.explain_reach.specs.Shapes.{box_with, common_box, common_low, common_high}
use Rattle.explain_reach.proofs.commons.box_in_common.Goals as goal

pub returns : goal.returns
unfolding common_box box_with
returns c =
    let fits_x_low : SFits w32 c.common_bounds-x.result.0 = search rules in
    let x_low : to_z w32 (of_z w32 c.common_bounds-x.result.0) ≡ common_low c.args.left.now c.args.right.now 0 = stored _ _ fits_x_low c.common_bounds-x.ensures.low in
    let fits_x_high : SFits w32 c.common_bounds-x.result.1 = search rules in
    let x_high : to_z w32 (of_z w32 c.common_bounds-x.result.1) ≡ common_high c.args.left.now c.args.right.now 0 = stored _ _ fits_x_high c.common_bounds-x.ensures.high in
    let fits_y_low : SFits w32 c.common_bounds-y.result.0 = search rules in
    let y_low : to_z w32 (of_z w32 c.common_bounds-y.result.0) ≡ common_low c.args.left.now c.args.right.now 1 = stored _ _ fits_y_low c.common_bounds-y.ensures.low in
    let fits_y_high : SFits w32 c.common_bounds-y.result.1 = search rules in
    let y_high : to_z w32 (of_z w32 c.common_bounds-y.result.1) ≡ common_high c.args.left.now c.args.right.now 1 = stored _ _ fits_y_high c.common_bounds-y.ensures.high in
    let fits_z_low : SFits w32 c.common_bounds-z.result.0 = search rules in
    let z_low : to_z w32 (of_z w32 c.common_bounds-z.result.0) ≡ common_low c.args.left.now c.args.right.now 2 = stored _ _ fits_z_low c.common_bounds-z.ensures.low in
    let fits_z_high : SFits w32 c.common_bounds-z.result.1 = search rules in
    let z_high : to_z w32 (of_z w32 c.common_bounds-z.result.1) ≡ common_high c.args.left.now c.args.right.now 2 = stored _ _ fits_z_high c.common_bounds-z.ensures.high in
    rw (x_low, y_low, z_low, x_high, y_high, z_high) refl
