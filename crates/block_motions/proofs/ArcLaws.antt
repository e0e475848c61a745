-- The motion of a block with an arc is sound, and one of axes that the channel owns.
use Rattle.axis_sets.specs.declared.limits.TheConstants.{AXIS_LIMIT}
use Rattle.std.proofs.Common.{◌≡◌, ◌≢◌, ℕ, ℤ, pos, ◌+ℤ◌, ◌*ℤ◌, not, Bool, true, false, cond, List, Option, None, Some, IfSome, Result, Ok, Err, IfOk, All, AllPairs, refl, sym, subst, arith}
use Rattle.std.proofs.lemmas.Bool.{leb-true}
use Rattle.std.proofs.lemmas.List.Elements.{All-weaker}
use Rattle.std.specs.Prelude.{int_lt, unsigned_abs}
use Rattle.axis_sets.specs.Sets.{has}
use Rattle.block_motions.specs.declared.goals.Goal.{Goal}
use Rattle.block_motions.specs.declared.goals.Goal.TheVariants.{To, By, TooFar}
use Rattle.block_motions.specs.declared.goals.Targets.{Targets}
use Rattle.block_motions.specs.Goals.{ConditionsView, chain_in, change_by, have_axes, is_off_plane}
use Rattle.block_motions.specs.Motions.{are_in_reach, are_own, goal_at, end_for, ends_from, IsMotionOf}
use Rattle.block_motions.proofs.MotionLaws.{end_own}
use Rattle.block_motions.proofs.Ends.{ends_all, ends_once}
use Rattle.block_motions.proofs.Reaches.{own_at}
use Rattle.frames.specs.Images.{image_of}
use Rattle.frames.specs.Places.{change_of}
use Rattle.frames.specs.declared.Plane.{Plane}
use Rattle.path_geometry.specs.Ends.{EndsView}
use Rattle.path_geometry.specs.Motions.{axes_of, AreSound, HavePlane, IsSound}
use Rattle.micro_units.specs.Position.{IsPosition, is_position}
use Rattle.path_geometry.specs.declared.motion.Motion.{Motion}
use Rattle.path_geometry.proofs.ArcSoundness.{about_sound, radius_sound}
use Rattle.block_motions.specs.Arcs.{place_in_range, place_from, goal_on, arc_about_places, arc_by_words, size_of, radius_of, arc_of_size, arc_by_size, arc_given, can_run, some_motion, arc_to, sides_in, have_one_factor, is_backward, in_turn, arc_goals, arc_between, arc_through, moves_arc, is_given, is_in_plane, plane_of, arc_motion}
use Rattle.block_motions.specs.Sides.{SideView}
use Rattle.block_motions.specs.declared.words.ArcWords.{ArcWords}
use Rattle.block_motions.proofs.ArcAxes.{about_axes, radius_axes}
use Rattle.block_motions.proofs.Runs.{in_range, have_plane}
use Rattle.fault_codes.specs.declared.alarms.TheConstants.{ARC_SCALE, ARC_WORDS, AXIS_NOT_OWNED, CENTRE_OUTSIDE_PLANE, NO_SUCH_AXIS, OUT_OF_RANGE, TOOL_PLANE}

-- ---- the centre and the size are in range

placed_near : (place : ℤ) → IfSome (place_in_range place) IsPosition
placed_near place = by_test (is_position place) refl
  where
    by_test : (b : Bool) → is_position place ≡ b → IfSome (cond b (Some place) None) IsPosition
    by_test true is = leb-true _ _ is
    by_test false is = tt

place_near : (start : ℤ) (goal : Goal) → IfSome (place_from start goal) IsPosition
place_near start (To end) = placed_near end
place_near start (By change) = placed_near (start +ℤ change)
place_near start TooFar = tt

size_near : (goal : Goal) → IfSome (size_of goal) IsPosition
size_near (To end) = tt
size_near (By change) = by_test (is_position change) refl
  where
    by_test : (b : Bool) → is_position change ≡ b → IfSome (cond b (Some (pos (unsigned_abs change))) None) IsPosition
    by_test true is = leb-true _ _ is
    by_test false is = tt
size_near TooFar = tt

-- ---- the arc that is given

-- an answer that is no alarm is a sound motion of these axes
pub record IsFor (ends : EndsView) (answer : Result Motion ℕ) : Type 0 where
  pub sound : IfOk answer IsSound
  pub axes : IfOk answer (λ motion. axes_of motion ≡ ends.axes)

module _ (sides : SideView × SideView) (ends : EndsView) (are : AreSound ends) (plane : HavePlane ends sides.0.moved sides.1.moved) where
  places_for : (first second : Option ℤ) → IfSome first IsPosition → IfSome second IsPosition → IsFor ends (arc_about_places ends sides first second)
  places_for None second near near' = record { sound = tt; axes = tt }
  places_for (Some first) None near near' = record { sound = tt; axes = tt }
  places_for (Some first) (Some second) near near' = record {
    sound = about_sound ends sides.0.moved sides.1.moved (first, second) are plane (near, near');
    axes = about_axes ends sides.0.moved sides.1.moved (first, second);
  }

  size_for : (long : Bool) (size : Option ℤ) → IfSome size IsPosition → IsFor ends (arc_of_size ends sides long size)
  size_for long None near = record { sound = tt; axes = tt }
  size_for long (Some size) near = record {
    sound = radius_sound ends sides.0.moved sides.1.moved (unsigned_abs size) long are plane near;
    axes = radius_axes ends sides.0.moved sides.1.moved (unsigned_abs size) long;
  }

  pub given_for : (h : ConditionsView) (at : ℕ → ℤ) (words : ArcWords) (radius : Option ℤ) → IsFor ends (arc_given h at words radius sides ends)
  unfolding arc_by_words arc_by_size
  given_for h at words None =
      places_for (place_from (at sides.0.moved) (goal_on h words sides.0)) (place_from (at sides.1.moved) (goal_on h words sides.1))
      (place_near (at sides.0.moved) (goal_on h words sides.0)) (place_near (at sides.1.moved) (goal_on h words sides.1))
  given_for h at words (Some radius) = size_for (int_lt radius (pos 0)) (radius_of h sides.0.axis radius) (size_near (change_by (change_of (image_of (chain_in h) sides.0.axis) (pos (unsigned_abs radius) *ℤ pos 2))))

-- ---- the motion of the block

-- a sound motion of a block
pub record IsSoundMotionOf (owned : List Bool) (at : ℕ → ℤ) (motion : Motion) : Type 0 where
  pub of : IsMotionOf owned at motion
  pub sound : IsSound motion

module _ (owned : List Bool) (at : ℕ → ℤ) (words : ArcWords) (motion : Motion) where
  motion_is : (goals : List (Option Goal)) (answer : Result Motion ℕ) → are_own owned goals ≡ true
      → All (λ e. IsPosition e.1 × IsPosition e.2) (ends_from at goals) → IsFor (record { axes = ends_from at goals }) answer
      → some_motion answer ≡ Ok (Some motion) → IsSoundMotionOf owned at motion
  motion_is goals (Err alarm) own near for is = absurd cc
  motion_is goals (Ok made) own near for is =
      let same : made ≡ motion = cc in
      subst (λ (m : Motion). IsSoundMotionOf owned at m) same
      (record {
        of = record {
          once = subst (λ (es : List (ℕ × ℤ × ℤ)). AllPairs (λ e f. e.0 ≢ f.0) es) (sym for.axes) (ends_once at (end_for at goals) 0 AXIS_LIMIT);
          owned = subst (λ (es : List (ℕ × ℤ × ℤ)). All (λ e. has owned e.0 ≡ true) es) (sym for.axes)
              (ends_all (λ e. has owned e.0 ≡ true) at (end_for at goals) 0 AXIS_LIMIT
              (λ axis to above below is. end_own (has owned axis) (at axis) to (goal_at goals axis) (own_at owned goals axis own (omega arith)) is));
          begins = subst (λ (es : List (ℕ × ℤ × ℤ)). All (λ e. e.1 ≡ at e.0) es) (sym for.axes)
              (ends_all (λ e. e.1 ≡ at e.0) at (end_for at goals) 0 AXIS_LIMIT (λ axis to above below is. refl));
          in_range = subst (λ (es : List (ℕ × ℤ × ℤ)). All (λ e. IsPosition e.2) es) (sym for.axes)
              (All-weaker (λ e. IsPosition e.1 × IsPosition e.2) (λ e. IsPosition e.2) (λ e both. both.1) (ends_from at goals) near);
          sound = λ _. for.sound;
        };
        sound = for.sound;
      })

  module _ (h : ConditionsView) where
    to_is : (sides : SideView × SideView) (goals : List (Option Goal)) → arc_to owned h at words sides goals ≡ Ok (Some motion) → IsSoundMotionOf owned at motion
    unfolding arc_to
    to_is sides goals is = by_tests (are_in_reach owned at goals) (are_own owned goals) (can_run sides made) refl refl refl is
      where
        made : EndsView
        made = record { axes = ends_from at goals }

        by_tests : (reach own can : Bool) → are_in_reach owned at goals ≡ reach → are_own owned goals ≡ own → can_run sides made ≡ can
            → cond {A = Result (Option Motion) ℕ} (not reach) (Err OUT_OF_RANGE) (cond (not own) (Err AXIS_NOT_OWNED) (cond (not can) (Err OUT_OF_RANGE) (some_motion (arc_given h at words words.radius sides made)))) ≡ Ok (Some motion)
            → IsSoundMotionOf owned at motion
        by_tests false own can a b c is = absurd cc
        by_tests true false can a b c is = absurd cc
        by_tests true true false a b c is = absurd cc
        by_tests true true true a b c is =
            let near = in_range sides made c in
            let are : AreSound made = record { once = ends_once at (end_for at goals) 0 AXIS_LIMIT; in_range = near } in
            motion_is goals (arc_given h at words words.radius sides made) b near (given_for sides made are (have_plane sides made c) h at words words.radius) is

    between_is : (slots : List (Option ℕ)) (targets : Targets) (plane : Plane) (sides : Option (SideView × SideView))
        → arc_between slots owned h at targets words plane sides ≡ Ok (Some motion) → IsSoundMotionOf owned at motion
    between_is slots targets plane None is = absurd cc
    between_is slots targets plane (Some sides) is = by_tests (is_off_plane h) (have_one_factor h plane) is
      where
        by_tests : (off one : Bool)
            → cond {A = Result (Option Motion) ℕ} off (Err TOOL_PLANE) (cond (not one) (Err ARC_SCALE) (arc_to owned h at words (in_turn (is_backward h plane) sides) (arc_goals slots h targets sides))) ≡ Ok (Some motion)
            → IsSoundMotionOf owned at motion
        by_tests true one is = absurd cc
        by_tests false false is = absurd cc
        by_tests false true is = to_is (in_turn (is_backward h plane) sides) (arc_goals slots h targets sides) is

    through_is : (slots : List (Option ℕ)) (targets : Targets) (plane : Plane) → arc_through slots owned h at targets words plane ≡ Ok (Some motion) → IsSoundMotionOf owned at motion
    unfolding arc_through
    through_is slots targets plane is = by_axes (have_axes slots h targets.slots) is
      where
        by_axes : (b : Bool) → cond {A = Result (Option Motion) ℕ} (not b) (Err NO_SUCH_AXIS) (arc_between slots owned h at targets words plane (sides_in slots h plane)) ≡ Ok (Some motion) → IsSoundMotionOf owned at motion
        by_axes false is = absurd cc
        by_axes true is = between_is slots targets plane (sides_in slots h plane) is

    pub arc_is : (slots : List (Option ℕ)) (targets : Targets) → arc_motion slots owned h at targets words ≡ Ok (Some motion) → IsSoundMotionOf owned at motion
    unfolding arc_motion
    arc_is slots targets is = by_words (moves_arc targets words) (is_given words) (is_in_plane (plane_of h) words) is
      where
        by_words : (moves given near : Bool)
            → cond {A = Result (Option Motion) ℕ} (not moves) (Ok None) (cond (not given) (Err ARC_WORDS) (cond (not near) (Err CENTRE_OUTSIDE_PLANE) (arc_through slots owned h at targets words (plane_of h)))) ≡ Ok (Some motion)
            → IsSoundMotionOf owned at motion
        by_words false given near is = absurd cc
        by_words true false near is = absurd cc
        by_words true true false is = absurd cc
        by_words true true true is = through_is slots targets (plane_of h) is
