use Rattle.std.proofs.Common.{arith, w32}
use Rattle.std.proofs.lemmas.Int.{to_z-of_z}
use Rattle.swept_boxes.specs.PlaneBoxes.{smallest_box}
use Rattle.swept_boxes.proofs.PlaneLaws.{box_same}
use Rattle.swept_boxes.proofs.arcs.joined.Goals as goal
use mir.Val.{of_z, to_z}

pub returns : goal.returns
returns c =
    let j = smallest_box c.args.a c.args.b in
    box_same (to_z w32 (of_z w32 c.lesser.result)) (to_z w32 (of_z w32 c.greater.result)) (to_z w32 (of_z w32 c.lesser-2.result)) (to_z w32 (of_z w32 c.greater-2.result))
    j.u_low j.u_high j.v_low j.v_high (grind (arith, to_z-of_z)) (grind (arith, to_z-of_z)) (grind (arith, to_z-of_z)) (grind (arith, to_z-of_z))
