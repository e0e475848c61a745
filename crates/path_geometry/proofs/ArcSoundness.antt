-- What the two calls give is the arc that is defined, and sound.
use Rattle.std.proofs.Common.{◌≡◌, ℕ, ℤ, ◌≤◌, ◌==◌, ◌&&◌, not, Bool, true, false, Option, None, Some, Ok, Err, IfOk, if◌then◌else◌, inl, inr, refl, ap, subst}
use Rattle.path_geometry.specs.Arcs.{start_about, end_about, way_of, arc_with, unless_alarm, has_no_radius, centre_alarm, arc_about, radius_alarm, centre_of, place_alarm, arc_placed, arc_of_radius}
use Rattle.path_geometry.specs.Ends.{EndsView}
use Rattle.path_geometry.specs.Motions.{AreSound, HavePlane, IsSound}
use Rattle.path_geometry.specs.Vectors.{square}
use Rattle.path_geometry.specs.declared.motion.Motion.{Motion}
use Rattle.path_geometry.specs.declared.motion.Motion.TheVariants as Kind
use Rattle.micro_units.specs.Position.{is_position, IsPosition}

-- the arc about a centre that is in range
pub placed_in_range : (ends : EndsView) (first second : ℕ) (whole centre : ℤ × ℤ) → (if is_position whole.0 && is_position whole.1 then Some whole else None) ≡ Some centre
    → (if has_no_radius (start_about ends first second centre) (end_about ends first second centre) then Err 22 else Ok (Kind.Arc (arc_with ends first second centre 2))) ≡ arc_placed ends first second whole
unfolding arc_placed place_alarm
placed_in_range ends first second whole centre = by_range (is_position whole.0 && is_position whole.1)
  where
    by_radius : (none : Bool) (motion : Motion) → (if none then Err 22 else Ok motion) ≡ unless_alarm (if none then Some 22 else None) (Ok motion)
    by_radius true motion = refl
    by_radius false motion = refl

    by_range : (b : Bool) → (if b then Some whole else None) ≡ Some centre
        → (if has_no_radius (start_about ends first second centre) (end_about ends first second centre) then Err 22 else Ok (Kind.Arc (arc_with ends first second centre 2)))
        ≡ unless_alarm (if not b then Some 13 else if has_no_radius (start_about ends first second whole) (end_about ends first second whole) then Some 22 else None) (Ok (Kind.Arc (arc_with ends first second whole 2)))
    by_range true e = let same : whole ≡ centre = cc in
        subst (λ (c : ℤ × ℤ). (if has_no_radius (start_about ends first second c) (end_about ends first second c) then Err 22 else Ok (Kind.Arc (arc_with ends first second c 2)))
        ≡ unless_alarm (if has_no_radius (start_about ends first second whole) (end_about ends first second whole) then Some 22 else None) (Ok (Kind.Arc (arc_with ends first second whole 2)))) same
        (by_radius (has_no_radius (start_about ends first second whole) (end_about ends first second whole)) (Kind.Arc (arc_with ends first second whole 2)))
    by_range false e = absurd cc

-- a centre that is not
pub placed_out_of_range : (ends : EndsView) (first second : ℕ) (whole : ℤ × ℤ) → (if is_position whole.0 && is_position whole.1 then Some whole else None) ≡ None
    → Err 13 ≡ arc_placed ends first second whole
unfolding arc_placed place_alarm
placed_out_of_range ends first second whole = by_range (is_position whole.0 && is_position whole.1)
  where
    by_range : (b : Bool) → (if b then Some whole else None) ≡ None
        → Err 13 ≡ unless_alarm (if not b then Some 13 else if has_no_radius (start_about ends first second whole) (end_about ends first second whole) then Some 22 else None) (Ok (Kind.Arc (arc_with ends first second whole 2)))
    by_range true e = absurd cc
    by_range false e = refl

-- an arc about a centre without an alarm is sound
pub about_sound : (ends : EndsView) (first second : ℕ) (centre : ℤ × ℤ) → AreSound ends → HavePlane ends first second → IsPosition centre.0 × IsPosition centre.1 → IfOk (arc_about ends first second centre) IsSound
unfolding arc_about arc_with
about_sound ends first second centre sound plane near = by_alarm (centre_alarm (square (way_of ends first second) == 0) (start_about ends first second centre) (end_about ends first second centre)) refl
  where
    by_alarm : (o : Option ℕ) → centre_alarm (square (way_of ends first second) == 0) (start_about ends first second centre) (end_about ends first second centre) ≡ o
        → IfOk (unless_alarm o (Ok (Kind.Arc (arc_with ends first second centre 0)))) IsSound
    by_alarm None e = record {
      ends = sound;
      plane = plane;
      made = inl (record { in_range = near; gives = ap (λ (o : Option ℕ). unless_alarm o (Ok (Kind.Arc (arc_with ends first second centre 0)))) e });
    }
    by_alarm (Some alarm) e = tt

no_alarm : (a b : Option ℕ) (motion : Motion) → a ≡ None → b ≡ None → unless_alarm a (unless_alarm b (Ok motion)) ≡ Ok motion
no_alarm a b motion e f = rw (e, f) refl

-- an arc of a radius without an alarm is sound
pub radius_sound : (ends : EndsView) (first second radius : ℕ) (long : Bool) → AreSound ends → HavePlane ends first second → radius ≤ 10000000 → IfOk (arc_of_radius ends first second radius long) IsSound
unfolding arc_of_radius arc_placed arc_with
radius_sound ends first second radius long sound plane near =
    by_alarms (radius_alarm (way_of ends first second) radius)
    (place_alarm (centre_of ends first second radius long) (start_about ends first second (centre_of ends first second radius long)) (end_about ends first second (centre_of ends first second radius long)))
    refl refl
  where
    by_alarms : (o p : Option ℕ) → radius_alarm (way_of ends first second) radius ≡ o
        → place_alarm (centre_of ends first second radius long) (start_about ends first second (centre_of ends first second radius long)) (end_about ends first second (centre_of ends first second radius long)) ≡ p
        → IfOk (unless_alarm o (unless_alarm p (Ok (Kind.Arc (arc_with ends first second (centre_of ends first second radius long) 2))))) IsSound
    by_alarms None None e f = record {
      ends = sound;
      plane = plane;
      made = inr (record {
        radius = radius;
        long = long;
        in_range = near;
        gives = no_alarm _ _ _ e f;
      });
    }
    by_alarms None (Some alarm) e f = tt
    by_alarms (Some alarm) p e f = tt
