-- Meaning. The elementary maps of a frame, and where a chain of them sends a point.
use Rattle.std.specs.Prelude.{◌≡◌, ℕ, zero, suc, ◌*◌, ◌/◌, ◌==◌, if◌then◌else◌, ℤ, pos, neg_ℤ, ◌+ℤ◌, ◌*ℤ◌, List, [], ◌∷◌}
use Rattle.std.specs.Int.{int_rem_euclid}
use Rattle.std.specs.Int.RustNames.{unsigned_abs}
use Rattle.frames.specs.declared.Plane.{Plane}
use Rattle.frames.specs.declared.Plane.TheVariants.{G17, G18, G19}

-- the axes X, Y and Z are 0, 1 and 2; a value counts millionths, of a millimetre, of 1 and of a degree
pub data Map : Type 0 where
  shifting : ℕ → ℤ → Map  -- the axis is moved by the value
  scaling : ℕ → ℤ → Map  -- the axis is multiplied by the value
  mirroring : ℕ → Map  -- the axis changes its sign
  turning : Plane → ℤ → Map  -- the plane is turned by the value

abbrev pub first_axis : Plane → ℕ
first_axis G17 = 0
first_axis G18 = 2
first_axis G19 = 1

abbrev pub second_axis : Plane → ℕ
second_axis G17 = 1
second_axis G18 = 0
second_axis G19 = 2

-- a point in millimetres: a number for each axis over one common number under them
pub record Point : Type 0 where
  pub top : ℕ → ℤ
  pub under : ℕ

abbrev pub shift_point : ℕ → ℤ → Point → Point
shift_point axis value p = record {
  top = λ a. (p.top a *ℤ pos 1000000) +ℤ (if a == axis then value *ℤ pos p.under else pos 0);
  under = p.under * 1000000;
}

abbrev pub scale_point : ℕ → ℤ → Point → Point
scale_point axis value p = record {
  top = λ a. p.top a *ℤ (if a == axis then value else pos 1000000);
  under = p.under * 1000000;
}

abbrev pub mirror_point : ℕ → Point → Point
mirror_point axis p = record {
  top = λ a. if a == axis then neg_ℤ (p.top a) else p.top a;
  under = p.under;
}

-- a turn of 90 degrees sends (first, second) to (-second, first)
abbrev pub quarter : Plane → Point → Point
quarter plane p = record {
  top = λ a.
      if a == second_axis plane
      then p.top (first_axis plane)
      else (if a == first_axis plane then neg_ℤ (p.top (second_axis plane)) else p.top a);
  under = p.under;
}

abbrev pub quarters : Plane → ℕ → Point → Point
quarters plane zero p = p
quarters plane (suc n) p = quarter plane (quarters plane n p)

-- how many turns of 90 degrees an angle is, whole turns left out
abbrev pub quarters_in : ℤ → ℕ
quarters_in angle = unsigned_abs (int_rem_euclid angle (pos 360000000)) / 90000000

abbrev pub effect : Map → Point → Point
effect (shifting axis value) p = shift_point axis value p
effect (scaling axis value) p = scale_point axis value p
effect (mirroring axis) p = mirror_point axis p
effect (turning plane angle) p = quarters plane (quarters_in angle) p

-- where a chain of maps sends a point, which goes through the last map first
abbrev pub mapped_point : List Map → Point → Point
mapped_point [] p = p
mapped_point (m ∷ ms) p = effect m (mapped_point ms p)

-- two points are one, however their numbers are written
abbrev pub IsSamePoint : Point → Point → Type 0
IsSamePoint p q = (axis : ℕ) → p.top axis *ℤ pos q.under ≡ q.top axis *ℤ pos p.under

abbrev pub total : List ℤ → ℤ
total [] = pos 0
total (value ∷ values) = value +ℤ total values
