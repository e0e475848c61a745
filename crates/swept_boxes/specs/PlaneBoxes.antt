-- Meaning. Boxes in the plane of an arc, seen from its centre.
use Rattle.std.specs.Prelude.{ℕ, zero, suc, ℤ, pos, neg_ℤ, List, [], ◌∷◌, fold}
use Rattle.std.specs.Int.{int_max, int_min}
use Rattle.arc_quadrants.specs.Bounds.{Bounds}

-- the low and the high bound along the first and along the second axis
pub record BoxInPlane : Type 0 where
  pub u_low : ℤ
  pub u_high : ℤ
  pub v_low : ℤ
  pub v_high : ℤ

-- bounds in quadrant 0 turned ahead by so many quarters, at most three
abbrev pub turned_ahead : ℕ → Bounds → BoxInPlane
turned_ahead zero b = record { u_low = pos b.u_low; u_high = pos b.u_high; v_low = pos b.v_low; v_high = pos b.v_high }
turned_ahead (suc zero) b = record { u_low = neg_ℤ (pos b.v_high); u_high = neg_ℤ (pos b.v_low); v_low = pos b.u_low; v_high = pos b.u_high }
turned_ahead (suc (suc zero)) b =
    record { u_low = neg_ℤ (pos b.u_high); u_high = neg_ℤ (pos b.u_low); v_low = neg_ℤ (pos b.v_high); v_high = neg_ℤ (pos b.v_low) }
turned_ahead (suc (suc (suc n))) b = record { u_low = pos b.v_low; u_high = pos b.v_high; v_low = neg_ℤ (pos b.u_high); v_high = neg_ℤ (pos b.u_low) }

-- the smallest box that holds two
abbrev pub smallest_box : BoxInPlane → BoxInPlane → BoxInPlane
smallest_box a b =
    record { u_low = int_min a.u_low b.u_low; u_high = int_max a.u_high b.u_high; v_low = int_min a.v_low b.v_low; v_high = int_max a.v_high b.v_high }

-- the smallest box that holds all of some
abbrev pub joined_all : List BoxInPlane → BoxInPlane
joined_all [] = record { u_low = pos 0; u_high = pos 0; v_low = pos 0; v_high = pos 0 }
joined_all (b ∷ bs) = fold smallest_box b bs
