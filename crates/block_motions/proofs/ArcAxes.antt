-- An arc has the axes of its ends.
use Rattle.std.proofs.Common.{◌≡◌, ℕ, ℤ, ◌==◌, Bool, Option, None, Some, Ok, IfOk, refl}
use Rattle.path_geometry.specs.Arcs.{start_about, end_about, way_of, arc_with, unless_alarm, centre_alarm, arc_about, radius_alarm, centre_of, place_alarm, arc_placed, arc_of_radius}
use Rattle.path_geometry.specs.Ends.{EndsView}
use Rattle.path_geometry.specs.Motions.{axes_of}
use Rattle.path_geometry.specs.Vectors.{square}
use Rattle.path_geometry.specs.declared.motion.Motion.TheVariants as Kind

alone : (ends : EndsView) (first second : ℕ) (centre : ℤ × ℤ) (room : ℕ) (o : Option ℕ)
    → IfOk (unless_alarm o (Ok (Kind.Arc (arc_with ends first second centre room)))) (λ motion. axes_of motion ≡ ends.axes)
unfolding arc_with
alone ends first second centre room None = refl
alone ends first second centre room (Some alarm) = tt

pub about_axes : (ends : EndsView) (first second : ℕ) (centre : ℤ × ℤ) → IfOk (arc_about ends first second centre) (λ motion. axes_of motion ≡ ends.axes)
unfolding arc_about
about_axes ends first second centre =
    alone ends first second centre 0 (centre_alarm (square (way_of ends first second) == 0) (start_about ends first second centre) (end_about ends first second centre))

placed_axes : (ends : EndsView) (first second : ℕ) (centre : ℤ × ℤ) → IfOk (arc_placed ends first second centre) (λ motion. axes_of motion ≡ ends.axes)
unfolding arc_placed
placed_axes ends first second centre =
    alone ends first second centre 2 (place_alarm centre (start_about ends first second centre) (end_about ends first second centre))

pub radius_axes : (ends : EndsView) (first second radius : ℕ) (long : Bool) → IfOk (arc_of_radius ends first second radius long) (λ motion. axes_of motion ≡ ends.axes)
unfolding arc_of_radius
radius_axes ends first second radius long = by_alarm (radius_alarm (way_of ends first second) radius) (placed_axes ends first second (centre_of ends first second radius long))
  where
    by_alarm : (o : Option ℕ) → IfOk (arc_placed ends first second (centre_of ends first second radius long)) (λ motion. axes_of motion ≡ ends.axes)
        → IfOk (unless_alarm o (arc_placed ends first second (centre_of ends first second radius long))) (λ motion. axes_of motion ≡ ends.axes)
    by_alarm None placed = placed
    by_alarm (Some alarm) placed = tt
