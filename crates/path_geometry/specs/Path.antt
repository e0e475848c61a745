-- Meaning. The path of a motion, as a set of points with fractional coordinates.
use Rattle.std.specs.Prelude.{◌≡◌, ◌≢◌, ℕ, ℤ, pos, ◌<◌, ◌≤◌, ◌*◌, ◌+ℤ◌, ◌-ℤ◌, ◌*ℤ◌, ◌<ℤ◌, ◌≤ℤ◌, ◌⊎◌, false}
use Rattle.std.specs.Int.{int_max, int_min}
use Rattle.std.specs.List.{All}
use Rattle.number_laws.specs.Fractions.{IsIn}
use Rattle.path_geometry.specs.Arcs.{start_seen, end_seen}
use Rattle.path_geometry.specs.Ends.{EndsView}
use Rattle.path_geometry.specs.Vectors.{Vector, cross, square}
use Rattle.path_geometry.specs.declared.motion.Arc.{Arc}
use Rattle.path_geometry.specs.declared.motion.Motion.{Motion}
use Rattle.path_geometry.specs.declared.motion.Motion.TheVariants.{Line, Rapid}
use Rattle.path_geometry.specs.declared.motion.Motion.TheVariants as Kind

-- a point: each axis at a fraction of micrometres, all over one number
pub record Point : Type 0 where
  pub top : ℕ → ℤ
  pub under : ℕ

-- the position that divides the way from start to end as part divides whole, times whole
abbrev pub way_divided : ℤ → ℤ → ℕ → ℕ → ℤ
way_divided start end whole part = (start *ℤ (pos whole -ℤ pos part)) +ℤ (end *ℤ pos part)

-- the point is on the line: its axes have all gone the same part of their ways
pub record IsOnLine (ends : EndsView) (point : Point) : Type 0 where
  pub whole : ℕ
  pub part : ℕ
  pub above_none : 0 < whole
  pub no_further : part ≤ whole
  pub fraction : 0 < point.under
  pub gone : All (λ e. point.top e.0 *ℤ pos whole ≡ way_divided e.1 e.2 whole part *ℤ pos point.under) ends.axes

-- an axis is at the point somewhere from its start to its end
abbrev pub IsBetween : Point → ℕ × ℤ × ℤ → Type 0
IsBetween point e = IsIn (int_min e.1 e.2) (int_max e.1 e.2) (point.top e.0) point.under

-- the point is on the rapid: each axis by itself is somewhere from its start to its end
pub record IsOnRapid (ends : EndsView) (point : Point) : Type 0 where
  pub fraction : 0 < point.under
  pub between : All (IsBetween point) ends.axes

-- the point in the plane of the arc, seen from its centre; its parts are fractions over the point's number
abbrev pub point_seen : Arc → Point → Vector
point_seen arc point = record {
  u = point.top arc.first -ℤ (arc.centre.0 *ℤ pos point.under);
  v = point.top arc.second -ℤ (arc.centre.1 *ℤ pos point.under);
}

-- p lies in the sector that a turn from s to e sweeps: up to half a turn it is ahead of s and after e, beyond that one of the two
pub record IsSwept (s e p : Vector) : Type 0 where
  pub short : pos 0 ≤ℤ cross s e → (pos 0 ≤ℤ cross s p) × (pos 0 ≤ℤ cross p e)
  pub long : cross s e <ℤ pos 0 → (pos 0 ≤ℤ cross s p) ⊎ (pos 0 ≤ℤ cross p e)

-- the point is on the arc: in the plane between the two radii and in the sector, which is everything where the arc is a whole turn;
-- each other axis is somewhere from its start to its end
pub record IsOnArc (arc : Arc) (point : Point) : Type 0 where
  pub fraction : 0 < point.under
  pub from_inner : (arc.inner * point.under) * (arc.inner * point.under) ≤ square (point_seen arc point)
  pub to_outer : square (point_seen arc point) ≤ (arc.outer * point.under) * (arc.outer * point.under)
  pub swept : arc.full ≡ false → IsSwept (start_seen arc) (end_seen arc) (point_seen arc point)
  pub others : All (λ e. e.0 ≢ arc.first → e.0 ≢ arc.second → IsBetween point e) arc.ends.axes

-- the point is on the path of the motion
abbrev pub IsOnPath : Motion → Point → Type 0
IsOnPath (Line ends) point = IsOnLine ends point
IsOnPath (Rapid ends) point = IsOnRapid ends point
IsOnPath (Kind.Arc arc) point = IsOnArc arc point
