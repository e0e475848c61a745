-- The motion of a block is one of axes that the channel owns, from where they stand.
use Rattle.axis_sets.specs.declared.limits.TheConstants.{AXIS_LIMIT}
use Rattle.std.proofs.Common.{◌≡◌, ◌≢◌, ◌⊎◌, ℕ, suc, ℤ, ◌≤◌, ◌<◌, ◌==◌, ◌+ℤ◌, ◌&&◌, not, Bool, true, false, cond, List, [], ◌∷◌, length, find, get_or, Option, None, Some, option_map, Result, Ok, Err, All, AllPairs, inl, inr, refl, sym, ap, subst, arith}
use Rattle.std.proofs.Math.ListN.{get_or-eq_default}
use Rattle.std.proofs.lemmas.Bool.{leb-true, eq-eqb, ne_eqb}
use Rattle.std.proofs.lemmas.List.Elements.{All-nil, All-cons, All-weaker}
use Rattle.path_geometry.specs.Ends.{EndsView}
use Rattle.path_geometry.specs.Motions.{axes_of, AreSound}
use Rattle.micro_units.specs.Position.{IsPosition}
use Rattle.path_geometry.specs.declared.motion.Motion.{Motion}
use Rattle.axis_sets.specs.Sets.{has}
use Rattle.block_motions.specs.declared.goals.Goal.{Goal}
use Rattle.block_motions.specs.declared.goals.Goal.TheVariants.{To, By, TooFar}
use Rattle.block_motions.specs.declared.goals.Targets.{Targets}
use Rattle.block_motions.specs.Goals.{ConditionsView, have_axes, goals_of, is_off_plane, is_programmed}
use Rattle.path_geometry.specs.Motions.{axis_end}
use Rattle.block_motions.specs.Motions.{end_from, is_in_reach, are_in_reach, is_own, are_own, goal_at, end_for, ends_from, is_rapid, motion_between, motion_if_any, straight_motion_to, straight_motion, IsMotionOf}
use Rattle.block_motions.proofs.Ends.{le_or_lt, ends_all, Differ, ends_once}
use Rattle.block_motions.proofs.GoalLaws.{IsFit, AllFit, goals_fit}
use Rattle.block_motions.proofs.Reaches.{reach_at, own_at}
use Rattle.fault_codes.specs.declared.alarms.TheConstants.{AXIS_NOT_OWNED, NO_SUCH_AXIS, OUT_OF_RANGE, TOOL_PLANE}

-- ---- the motion of a block

-- an end that is reached is in range, and is one of an owned axis
end_fit : (mine : Bool) (start to : ℤ) (goal : Option Goal) → IsFit goal → is_in_reach mine start goal ≡ true → is_own mine goal ≡ true
    → option_map (end_from start) goal ≡ Some to → IsPosition to
end_fit mine start to None fit reach own is = absurd cc
end_fit mine start to (Some (To end)) fit reach own is = let same : end ≡ to = cc in subst IsPosition same fit
end_fit true start to (Some (By change)) fit reach own is = let same : start +ℤ change ≡ to = cc in subst IsPosition same (leb-true _ _ reach)
end_fit false start to (Some (By change)) fit reach own is = absurd cc
end_fit mine start to (Some TooFar) fit reach own is = absurd cc

-- an axis that has an end is one that is owned
pub end_own : (mine : Bool) (start to : ℤ) (goal : Option Goal) → is_own mine goal ≡ true → option_map (end_from start) goal ≡ Some to → mine ≡ true
end_own mine start to None own is = absurd cc
end_own mine start to (Some goal) own is = own

module _ (owned : List Bool) (at : ℕ → ℤ) where
  -- ends of axes that the channel owns, each once, from where it stands to an end in range
  between_is : (rapid : Bool) (ends : EndsView) → AllPairs (λ e f. e.0 ≢ f.0) ends.axes → All (λ e. has owned e.0 ≡ true) ends.axes → All (λ e. e.1 ≡ at e.0) ends.axes
      → All (λ e. IsPosition e.2) ends.axes → IsMotionOf owned at (motion_between rapid ends)
  between_is rapid ends once own begins near = by_kind rapid
    where
      sound : ((axis : ℕ) → IsPosition (at axis)) → AreSound ends
      sound within = record { once = once; in_range = λ k d inside. (subst IsPosition (sym (begins k d inside)) (within (get_or ends.axes k d).0), near k d inside) }

      by_kind : (rapid : Bool) → IsMotionOf owned at (motion_between rapid ends)
      by_kind true = record { once = once; owned = own; begins = begins; in_range = near; sound = sound }
      by_kind false = record { once = once; owned = own; begins = begins; in_range = near; sound = sound }

  ends_are : (rapid : Bool) (goals : List (Option Goal)) → AllFit goals → are_in_reach owned at goals ≡ true → are_own owned goals ≡ true
      → IsMotionOf owned at (motion_between rapid (record { axes = ends_from at goals }))
  ends_are rapid goals fit reach own =
      between_is rapid (record { axes = ends_from at goals }) (ends_once at (end_for at goals) 0 AXIS_LIMIT)
      (ends_all (λ e. has owned e.0 ≡ true) at (end_for at goals) 0 AXIS_LIMIT
      (λ axis to above below is. end_own (has owned axis) (at axis) to (goal_at goals axis) (own_at owned goals axis own (omega arith)) is))
      (ends_all (λ e. e.1 ≡ at e.0) at (end_for at goals) 0 AXIS_LIMIT (λ axis to above below is. refl))
      (ends_all (λ e. IsPosition e.2) at (end_for at goals) 0 AXIS_LIMIT
      (λ axis to above below is. end_fit (has owned axis) (at axis) to (goal_at goals axis) (fit axis) (reach_at owned at goals axis reach (omega arith)) (own_at owned goals axis own (omega arith)) is))

  any_is : (rapid : Bool) (ends : List (ℕ × ℤ × ℤ)) (motion : Motion) → IsMotionOf owned at (motion_between rapid (record { axes = ends })) → motion_if_any rapid ends ≡ Some motion
      → IsMotionOf owned at motion
  any_is rapid [] motion here is = absurd cc
  any_is rapid (e ∷ ends) motion here is =
      let first : Motion = motion_between rapid (record { axes = e ∷ ends }) in
      let same : first ≡ motion = cc in subst (λ (m : Motion). IsMotionOf owned at m) same here

  straight_to_is : (rapid : Bool) (goals : List (Option Goal)) (motion : Motion) → AllFit goals → straight_motion_to owned at rapid goals ≡ Ok (Some motion) → IsMotionOf owned at motion
  unfolding straight_motion_to
  straight_to_is rapid goals motion fit is = by_tests (are_in_reach owned at goals) (are_own owned goals) refl refl is
    where
      by_tests : (reach own : Bool) → are_in_reach owned at goals ≡ reach → are_own owned goals ≡ own
          → cond {A = Result (Option Motion) ℕ} (not reach) (Err OUT_OF_RANGE) (cond (not own) (Err AXIS_NOT_OWNED) (Ok (motion_if_any rapid (ends_from at goals)))) ≡ Ok (Some motion) → IsMotionOf owned at motion
      by_tests false own reached mine is = absurd cc
      by_tests true false reached mine is = absurd cc
      by_tests true true reached mine is =
          let made : motion_if_any rapid (ends_from at goals) ≡ Some motion = cc in any_is rapid (ends_from at goals) motion (ends_are rapid goals fit reached mine) made

  pub straight_is : (slots : List (Option ℕ)) (h : ConditionsView) (targets : Targets) (motion : Motion) → straight_motion slots owned h at targets ≡ Ok (Some motion) → IsMotionOf owned at motion
  unfolding straight_motion
  straight_is slots h targets motion is = by_tests (have_axes slots h targets.slots) (is_programmed targets && is_off_plane h) is
    where
      by_tests : (have off : Bool)
          → cond {A = Result (Option Motion) ℕ} (not have) (Err NO_SUCH_AXIS) (cond off (Err TOOL_PLANE) (straight_motion_to owned at (is_rapid h) (goals_of slots h targets))) ≡ Ok (Some motion)
          → IsMotionOf owned at motion
      by_tests false off is = absurd cc
      by_tests true true is = absurd cc
      by_tests true false is = straight_to_is (is_rapid h) (goals_of slots h targets) motion (goals_fit h slots targets) is

-- ---- for what stands on motions

-- the axes of a motion of a block are members of the set of axes that are owned
pub axes_below : (n : ℕ) (owned : List Bool) (at : ℕ → ℤ) (motion : Motion) → length owned ≤ n → IsMotionOf owned at motion → All (λ e. e.0 < n) (axes_of motion)
axes_below n owned at motion size is =
    All-weaker (λ e. has owned e.0 ≡ true) (λ e. e.0 < n) (λ e here. by_size e.0 here (le_or_lt (length owned) e.0)) (axes_of motion) is.owned
  where
    by_size : (axis : ℕ) → has owned axis ≡ true → (length owned ≤ axis) ⊎ (axis < length owned) → axis < n
    by_size axis here (inl past) = let none : has owned axis ≡ false = get_or-eq_default owned false past in absurd cc
    by_size axis here (inr inside) = omega arith

-- where each axis stands once, each end is the one that is found for its axis
found_itself : (ends : List (ℕ × ℤ × ℤ)) → AllPairs Differ ends → All (λ e. find (λ f. f.0 == e.0) ends ≡ Some e) ends
found_itself [] once = All-nil (λ e. find (λ f. f.0 == e.0) [] ≡ Some e)
found_itself (first ∷ ends) once =
    All-cons (λ e. find (λ f. f.0 == e.0) (first ∷ ends) ≡ Some e) first ends (rw (eq-eqb first.0 first.0 refl) refl)
    (λ k d within. let apart : first.0 ≢ (get_or ends k d).0 = once 0 (suc k) d (omega arith) (omega arith) in
    rw (ne_eqb first.0 (get_or ends k d).0 apart) (found_itself ends (λ i j d before inside. once (suc i) (suc j) d (omega arith) (omega arith)) k d within))

-- so a motion of a block leaves each of its axes at its end
pub ends_found : (owned : List Bool) (at : ℕ → ℤ) (motion : Motion) → IsMotionOf owned at motion → All (λ e. axis_end e.0 motion ≡ Some e.2) (axes_of motion)
unfolding axis_end
ends_found owned at motion is =
    All-weaker (λ e. find (λ f. f.0 == e.0) (axes_of motion) ≡ Some e) (λ e. option_map (λ f. f.2) (find (λ f. f.0 == e.0) (axes_of motion)) ≡ Some e.2)
    (λ e here. ap (option_map (λ (f : ℕ × ℤ × ℤ). f.2)) here) (axes_of motion) (found_itself (axes_of motion) is.once)
