-- The axes of a block stand at the ends of its motion.
use Rattle.axis_sets.specs.declared.limits.TheConstants.{AXIS_LIMIT}
use Rattle.std.proofs.Common.{◌≡◌, ◌∙◌, ℕ, ℤ, ◌==◌, Bool, true, false, List, [], ◌∷◌, find, length, Option, None, Some, option_map, unwrap_or, refl, sym, ap, arith}
use Rattle.std.proofs.lemmas.Bool.{eqb-true}
use Rattle.axis_sets.specs.Positions.{stands}
use Rattle.block_motions.specs.declared.goals.Goal.{Goal}
use Rattle.block_motions.specs.Motions.{ends_from, motion_between, StandsMoved, StandsAtEndOf}
use Rattle.path_geometry.specs.Ends.{EndsView}
use Rattle.path_geometry.specs.Motions.{axes_of, axis_end}
use Rattle.path_geometry.specs.declared.motion.Motion.{Motion}
use Rattle.block_motions.proofs.Ends.{found}

-- a rapid and a line have the axes of their ends
pub between_axes : (rapid : Bool) (ends : EndsView) → axes_of (motion_between rapid ends) ≡ ends.axes
between_axes true ends = refl
between_axes false ends = refl

module _ (old new : List (Option ℤ)) (goals : List (Option Goal)) (long : length goals ≡ AXIS_LIMIT) (moved : StandsMoved goals old new) where
  end_among : (axis : ℕ) (axes : List (ℕ × ℤ × ℤ)) → axes ≡ ends_from (stands old) goals
      → stands new axis ≡ unwrap_or (option_map (λ (e : ℕ × ℤ × ℤ). e.2) (find (λ e. e.0 == axis) axes)) (stands old axis)
  end_among axis axes is =
      moved axis
      ∙ sym (ap (λ (o : Option ℤ). unwrap_or o (stands old axis))
      (ap (λ (es : List (ℕ × ℤ × ℤ)). option_map (λ (e : ℕ × ℤ × ℤ). e.2) (find (λ e. e.0 == axis) es)) is ∙ found (stands old) goals axis long))

  -- a motion of these axes takes them to their ends
  pub arrives : (motion : Motion) → axes_of motion ≡ ends_from (stands old) goals → StandsAtEndOf (Some motion) old new
  unfolding axis_end
  arrives motion is axis = end_among axis (axes_of motion) is

  -- where no axis has an end, no motion is
  pub at_none : (ends : EndsView) → ends.axes ≡ ends_from (stands old) goals → (length ends.axes == 0) ≡ true → StandsAtEndOf None old new
  at_none ends is none = by_axes ends.axes is none
    where
      by_axes : (axes : List (ℕ × ℤ × ℤ)) → axes ≡ ends_from (stands old) goals → (length axes == 0) ≡ true → StandsAtEndOf None old new
      by_axes [] is none = λ axis. end_among axis [] is
      by_axes (e ∷ axes) is none = let zero_long : length (e ∷ axes) ≡ 0 = eqb-true (length (e ∷ axes)) 0 none in absurd (omega arith)
