-- Meaning. What a contract sees of ranges, and what they hold.
use Rattle.std.specs.Prelude.{◌≡◌, List, ◌≤ℤ◌}
use Rattle.std.specs.List.{All, AllZip}
use Rattle.micro_units.specs.declared.Um.{Um}
use Rattle.number_laws.specs.Fractions.{IsIn}
use Rattle.axis_sets.specs.declared.ids.AxisId.{AxisId}
use Rattle.path_geometry.specs.Path.{Point}

-- each axis with its low and its high bound
pub record RangesView : Type 0 where
  pub axes : List (AxisId × Um × Um)

-- each axis of the ranges is within its bounds at the point
abbrev pub Hold : RangesView → Point → Type 0
Hold ranges point = All (λ r. IsIn r.1 r.2 (point.top r.0) point.under) ranges.axes

-- the first ranges lie in the second, axis by axis
abbrev pub LieIn : RangesView → RangesView → Type 0
LieIn inner outer = AllZip (λ r s. (r.0 ≡ s.0) × (s.1 ≤ℤ r.1) × (r.2 ≤ℤ s.2)) inner.axes outer.axes
