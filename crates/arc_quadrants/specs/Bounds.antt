-- Meaning. The bounds of the part of a ring between two directions of quadrant 0.
use Rattle.std.specs.Prelude.{ℕ, List, [], ◌∷◌, pos, ◌+◌, ◌-◌, ◌*◌, ◌/◌, ◌<◌, ◌≤◌}
use Rattle.micro_units.specs.Root.{floor_root, ceil_root}
use Rattle.number_laws.specs.Fractions.{IsIn}
use Rattle.path_geometry.specs.Vectors.{Vector}

-- a direction of quadrant 0: its parts along the two axes, not both 0 and each below 2 ^ 29
pub record IsDirection (d : ℕ × ℕ) : Type 0 where
  pub some : 0 < d.0 + d.1
  pub first : d.0 < 536870912
  pub second : d.1 < 536870912

-- the square of its length
abbrev pub length_square : ℕ × ℕ → ℕ
length_square d = d.0 * d.0 + d.1 * d.1

-- how far a ring of this radius reaches along an axis, in a direction with this part on the axis and this square of its length:
-- radius * part / root of square, rounded down and up
unfoldable pub reach_down : ℕ → ℕ → ℕ → ℕ
reach_down radius part square = floor_root ((radius * radius) * (part * part) / square)

unfoldable pub reach_up : ℕ → ℕ → ℕ → ℕ
reach_up radius part square = ceil_root (((radius * radius) * (part * part) + (square - 1)) / square)

-- the same by squares: n is the greatest number that is at most radius * part / root of square
pub record IsReachDown (n radius part square : ℕ) : Type 0 where
  pub at_most : (n * n) * square ≤ (radius * radius) * (part * part)
  pub next : (radius * radius) * (part * part) < ((n + 1) * (n + 1)) * square

-- n is the least number that is at least radius * part / root of square
pub record IsReachUp (n radius part square : ℕ) : Type 0 where
  pub at_least : (radius * radius) * (part * part) ≤ (n * n) * square
  pub least : (k : ℕ) → k < n → (k * k) * square < (radius * radius) * (part * part)

-- the bounds along both axes
pub record Bounds : Type 0 where
  pub u_low : ℕ
  pub u_high : ℕ
  pub v_low : ℕ
  pub v_high : ℕ

abbrev pub bounds_between : ℕ → ℕ → ℕ × ℕ → ℕ × ℕ → Bounds
bounds_between inner outer from to = record {
  u_low = reach_down inner to.0 (length_square to);
  u_high = reach_up outer from.0 (length_square from);
  v_low = reach_down inner from.1 (length_square from);
  v_high = reach_up outer to.1 (length_square to);
}

-- the same in a row
abbrev pub bounds_in_order : Bounds → List ℕ
bounds_in_order bounds = bounds.u_low ∷ bounds.u_high ∷ bounds.v_low ∷ bounds.v_high ∷ []

-- the vector p over n lies within the bounds
pub record IsBound (bounds : Bounds) (p : Vector) (n : ℕ) : Type 0 where
  pub on_u : IsIn (pos bounds.u_low) (pos bounds.u_high) p.u n
  pub on_v : IsIn (pos bounds.v_low) (pos bounds.v_high) p.v n
