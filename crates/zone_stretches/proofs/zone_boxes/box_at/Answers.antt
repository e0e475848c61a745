use Rattle.std.proofs.Common.{rules, ◌≡◌, ℕ, ℤ, pos, refl, w32, get_or}
use mir.Val.{to_z, of_z, SFits}
use Rattle.zone_stretches.specs.ZoneBoxes.{box_of, side_low, side_high}
use Rattle.number_laws.proofs.Lists.{map-three}
use Rattle.zone_stretches.proofs.Directions.{stored}
use Rattle.zone_stretches.proofs.zone_boxes.box_at.Goals as goal

pub returns : goal.returns
unfolding box_of
returns c =
    let at : ℕ → ℤ = λ a. get_or c.args.at.now a (pos 0) in
    let fits_x_low : SFits w32 c.bounds_at-x.result.0 = search rules in
    let x_low : to_z w32 (of_z w32 c.bounds_at-x.result.0) ≡ side_low c.args.margin at at (get_or c.args.sides.now 0 c.index-sides-0.result) = stored _ _ fits_x_low c.bounds_at-x.ensures.low in
    let fits_y_low : SFits w32 c.bounds_at-y.result.0 = search rules in
    let y_low : to_z w32 (of_z w32 c.bounds_at-y.result.0) ≡ side_low c.args.margin at at (get_or c.args.sides.now 1 c.index-sides-1.result) = stored _ _ fits_y_low c.bounds_at-y.ensures.low in
    let fits_z_low : SFits w32 c.bounds_at-z.result.0 = search rules in
    let z_low : to_z w32 (of_z w32 c.bounds_at-z.result.0) ≡ side_low c.args.margin at at (get_or c.args.sides.now 2 c.index-sides-2.result) = stored _ _ fits_z_low c.bounds_at-z.ensures.low in
    let fits_x_high : SFits w32 c.bounds_at-x.result.1 = search rules in
    let x_high : to_z w32 (of_z w32 c.bounds_at-x.result.1) ≡ side_high c.args.margin at at (get_or c.args.sides.now 0 c.index-sides-0.result) = stored _ _ fits_x_high c.bounds_at-x.ensures.high in
    let fits_y_high : SFits w32 c.bounds_at-y.result.1 = search rules in
    let y_high : to_z w32 (of_z w32 c.bounds_at-y.result.1) ≡ side_high c.args.margin at at (get_or c.args.sides.now 1 c.index-sides-1.result) = stored _ _ fits_y_high c.bounds_at-y.ensures.high in
    let fits_z_high : SFits w32 c.bounds_at-z.result.1 = search rules in
    let z_high : to_z w32 (of_z w32 c.bounds_at-z.result.1) ≡ side_high c.args.margin at at (get_or c.args.sides.now 2 c.index-sides-2.result) = stored _ _ fits_z_high c.bounds_at-z.ensures.high in
    rw (
      map-three (side_low c.args.margin at at) c.args.sides.now c.index-sides-0.result c.index-sides-1.result c.index-sides-2.result c.type_inv.sides,
      map-three (side_high c.args.margin at at) c.args.sides.now c.index-sides-0.result c.index-sides-1.result c.index-sides-2.result c.type_inv.sides,
    ) (rw (x_low, y_low, z_low, x_high, y_high, z_high) refl)
