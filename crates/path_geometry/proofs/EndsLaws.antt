-- Where an axis starts and where it ends, among the axes of a motion.
use Rattle.std.proofs.Common.{◌≡◌, ℕ, ℤ, ◌==◌, Bool, true, false, cond, All, List, [], ◌∷◌, find, Option, None, Some, option_map, IfSome, pos, refl, subst, arith}
use Rattle.std.specs.Option.{option_map_or}
use Rattle.std.proofs.lemmas.List.Elements.{All-head, All-tail}
use Rattle.number_laws.proofs.Lists.{All-found, found_holds}
use Rattle.path_geometry.specs.Ends.{EndsView, start_of, end_of}
use Rattle.path_geometry.specs.Motions.{AreSound, axes_of, axis_end}
use Rattle.micro_units.specs.Position.{IsPosition}
use Rattle.path_geometry.specs.declared.motion.Motion.{Motion}

-- the axes of sound ends are in range wherever they start and end
pub found_in_range : (ends : EndsView) (axis : ℕ) (e : ℕ × ℤ × ℤ) → AreSound ends → find (λ e. e.0 == axis) ends.axes ≡ Some e → IsPosition e.1 × IsPosition e.2
found_in_range ends axis e sound = All-found (λ e. IsPosition e.1 × IsPosition e.2) (λ e. e.0 == axis) ends.axes e sound.in_range

pub start_in_range : (ends : EndsView) (axis : ℕ) → AreSound ends → IsPosition (start_of ends axis)
start_in_range ends axis sound = by_found (find (λ e. e.0 == axis) ends.axes) (found_in_range ends axis)
  where
    by_found : (o : Option (ℕ × ℤ × ℤ)) → ((e : ℕ × ℤ × ℤ) → AreSound ends → o ≡ Some e → IsPosition e.1 × IsPosition e.2) → IsPosition (option_map_or (λ (e : ℕ × ℤ × ℤ). e.1) o (pos 0))
    by_found None held = omega arith
    by_found (Some e) held = (held e sound refl).0

pub end_in_range : (ends : EndsView) (axis : ℕ) → AreSound ends → IsPosition (end_of ends axis)
end_in_range ends axis sound = by_found (find (λ e. e.0 == axis) ends.axes) (found_in_range ends axis)
  where
    by_found : (o : Option (ℕ × ℤ × ℤ)) → ((e : ℕ × ℤ × ℤ) → AreSound ends → o ≡ Some e → IsPosition e.1 × IsPosition e.2) → IsPosition (option_map_or (λ (e : ℕ × ℤ × ℤ). e.2) o (pos 0))
    by_found None held = omega arith
    by_found (Some e) held = (held e sound refl).1

-- where all axes end in range, so does one that is of the motion
pub axis_end_in_range : (axis : ℕ) (motion : Motion) → All (λ e. IsPosition e.2) (axes_of motion) → IfSome (axis_end axis motion) IsPosition
unfolding axis_end
axis_end_in_range axis motion all = by_found (find (λ e. e.0 == axis) (axes_of motion)) (found_holds (λ e. IsPosition e.2) (λ e. e.0 == axis) (axes_of motion) all)
  where
    by_found : (o : Option (ℕ × ℤ × ℤ)) → IfSome o (λ e. IsPosition e.2) → IfSome (option_map (λ e. e.2) o) IsPosition
    by_found None here = tt
    by_found (Some e) here = here
