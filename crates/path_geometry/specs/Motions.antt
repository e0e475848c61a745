-- Meaning. The axes of a motion, and when a motion is sound.
use Rattle.std.specs.Prelude.{◌≡◌, ◌≢◌, ℕ, ℤ, ◌≤◌, Bool, IsTrue, ◌==◌, ◌⊎◌, List, Option, find, option_map, Ok}
use Rattle.std.specs.List.{All, AllPairs, list_any}
use Rattle.path_geometry.specs.Arcs.{arc_about, arc_of_radius}
use Rattle.path_geometry.specs.Ends.{EndsView}
use Rattle.path_geometry.specs.declared.motion.Arc.{Arc}
use Rattle.path_geometry.specs.declared.motion.Motion.{Motion}
use Rattle.path_geometry.specs.declared.motion.Motion.TheVariants.{Line, Rapid}
use Rattle.path_geometry.specs.declared.motion.Motion.TheVariants as Kind
use Rattle.micro_units.specs.Position.{IsPosition}
use Rattle.micro_units.specs.declared.limits.TheConstants.{POSITION_LIMIT}

-- the axes of a motion, each with its start and its end
abbrev pub axes_of : Motion → List (ℕ × ℤ × ℤ)
axes_of (Line ends) = ends.axes
axes_of (Rapid ends) = ends.axes
axes_of (Kind.Arc arc) = arc.ends.axes

-- the end that a motion gives an axis; none where the motion has not this axis
unfoldable pub axis_end : ℕ → Motion → Option ℤ
axis_end axis motion = option_map (λ e. e.2) (find (λ e. e.0 == axis) (axes_of motion))

-- each axis stands once, and starts and ends in range
pub record AreSound (ends : EndsView) : Type 0 where
  pub once : AllPairs (λ e f. e.0 ≢ f.0) ends.axes
  pub in_range : All (λ e. IsPosition e.1 × IsPosition e.2) ends.axes

-- the two axes of a plane differ and are among the axes
pub record HavePlane (ends : EndsView) (first second : ℕ) : Type 0 where
  pub differ : first ≢ second
  pub has_first : IsTrue (list_any (λ e. e.0 == first) ends.axes)
  pub has_second : IsTrue (list_any (λ e. e.0 == second) ends.axes)

-- the arc is the one about its centre
pub record IsAbout (arc : Arc) : Type 0 where
  pub in_range : IsPosition arc.centre.0 × IsPosition arc.centre.1
  pub gives : arc_about arc.ends arc.first arc.second arc.centre ≡ Ok (Kind.Arc arc)

-- the arc is one of a radius
pub record IsOfRadius (arc : Arc) : Type 0 where
  pub radius : ℕ
  pub long : Bool
  pub in_range : radius ≤ POSITION_LIMIT
  pub gives : arc_of_radius arc.ends arc.first arc.second radius long ≡ Ok (Kind.Arc arc)

pub record IsSoundArc (arc : Arc) : Type 0 where
  pub ends : AreSound arc.ends
  pub plane : HavePlane arc.ends arc.first arc.second
  pub made : IsAbout arc ⊎ IsOfRadius arc

-- a motion is sound
abbrev pub IsSound : Motion → Type 0
IsSound (Line ends) = AreSound ends
IsSound (Rapid ends) = AreSound ends
IsSound (Kind.Arc arc) = IsSoundArc arc
