use Rattle.std.proofs.Common.{◌≡◌, ℕ, arith, subst, sym, w32}
use Rattle.std.proofs.lemmas.Int.{ints, to_z-of_z}
use Rattle.std.specs.Prelude.{pos, neg_ℤ, ◌-ℤ◌}
use Rattle.swept_boxes.specs.PlaneBoxes.{turned_ahead}
use Rattle.swept_boxes.proofs.PlaneLaws.{box_same, record_of}
use Rattle.swept_boxes.proofs.arcs.turned_ahead.Goals as goal
use mir.Val.{of_z, to_z}

pub returns-in-2 : goal.returns-in-2
returns-in-2 c =
    let a = to_z w32 (of_z w32 (pos 0 -ℤ to_z w32 c.args.u_high)) in
    let b = to_z w32 (of_z w32 (pos 0 -ℤ to_z w32 c.args.u_low)) in
    let d = to_z w32 (of_z w32 (pos 0 -ℤ to_z w32 c.args.v_high)) in
    let e = to_z w32 (of_z w32 (pos 0 -ℤ to_z w32 c.args.v_low)) in
    let w = neg_ℤ (pos c.args.u_high) in
    let x = neg_ℤ (pos c.args.u_low) in
    let y = neg_ℤ (pos c.args.v_high) in
    let z = neg_ℤ (pos c.args.v_low) in
    subst
    (λ (t : ℕ). record_of a b d e ≡ turned_ahead t (record { u_low = c.args.u_low; u_high = c.args.u_high; v_low = c.args.v_low; v_high = c.args.v_high }))
    (sym c.in-2.is)
    (box_same a b d e w x y z (grind (arith, ints, to_z-of_z)) (grind (arith, ints, to_z-of_z)) (grind (arith, ints, to_z-of_z)) (grind (arith, ints, to_z-of_z)))
