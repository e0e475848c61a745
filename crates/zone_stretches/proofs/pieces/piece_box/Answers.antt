use Rattle.std.proofs.Common.{rules, ◌≡◌, ℕ, ℤ, refl, w32, get_or}
use mir.Val.{to_z, of_z, SFits}
use Rattle.swept_boxes.specs.Boxes.{low_of, high_of}
use Rattle.job_types.specs.declared.job.Side.{Side}
use Rattle.zone_stretches.specs.Pieces.{piece_box, piece_low, piece_high}
use Rattle.zone_stretches.proofs.Directions.{by_direction-three, stored}
use Rattle.zone_stretches.proofs.pieces.piece_box.Goals as goal

pub returns : goal.returns
unfolding piece_box
returns c =
    let low : Side → ℕ → ℤ = λ side direction. piece_low c.args.margin c.args.ranges.now side (low_of c.args.cover.now direction) in
    let high : Side → ℕ → ℤ = λ side direction. piece_high c.args.margin c.args.ranges.now side (high_of c.args.cover.now direction) in
    let fits_x_low : SFits w32 c.piece_bounds-x.result.0 = search rules in
    let x_low : to_z w32 (of_z w32 c.piece_bounds-x.result.0) ≡ low (get_or c.args.sides.now 0 c.index-sides-0.result) 0 = stored _ _ fits_x_low c.piece_bounds-x.ensures.low in
    let fits_x_high : SFits w32 c.piece_bounds-x.result.1 = search rules in
    let x_high : to_z w32 (of_z w32 c.piece_bounds-x.result.1) ≡ high (get_or c.args.sides.now 0 c.index-sides-0.result) 0 = stored _ _ fits_x_high c.piece_bounds-x.ensures.high in
    let fits_y_low : SFits w32 c.piece_bounds-y.result.0 = search rules in
    let y_low : to_z w32 (of_z w32 c.piece_bounds-y.result.0) ≡ low (get_or c.args.sides.now 1 c.index-sides-1.result) 1 = stored _ _ fits_y_low c.piece_bounds-y.ensures.low in
    let fits_y_high : SFits w32 c.piece_bounds-y.result.1 = search rules in
    let y_high : to_z w32 (of_z w32 c.piece_bounds-y.result.1) ≡ high (get_or c.args.sides.now 1 c.index-sides-1.result) 1 = stored _ _ fits_y_high c.piece_bounds-y.ensures.high in
    let fits_z_low : SFits w32 c.piece_bounds-z.result.0 = search rules in
    let z_low : to_z w32 (of_z w32 c.piece_bounds-z.result.0) ≡ low (get_or c.args.sides.now 2 c.index-sides-2.result) 2 = stored _ _ fits_z_low c.piece_bounds-z.ensures.low in
    let fits_z_high : SFits w32 c.piece_bounds-z.result.1 = search rules in
    let z_high : to_z w32 (of_z w32 c.piece_bounds-z.result.1) ≡ high (get_or c.args.sides.now 2 c.index-sides-2.result) 2 = stored _ _ fits_z_high c.piece_bounds-z.ensures.high in
    rw (
      by_direction-three low c.args.sides.now c.index-sides-0.result c.index-sides-1.result c.index-sides-2.result c.type_inv.sides,
      by_direction-three high c.args.sides.now c.index-sides-0.result c.index-sides-1.result c.index-sides-2.result c.type_inv.sides,
    ) (rw (x_low, y_low, z_low, x_high, y_high, z_high) refl)
