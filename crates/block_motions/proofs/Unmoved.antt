-- A block that programs no axis has no goals, no alarm and no motion.
use Rattle.axis_sets.specs.declared.limits.TheConstants.{AXIS_LIMIT}
use Rattle.std.proofs.Common.{◌≡◌, ◌+◌, ℕ, zero, suc, ℤ, Bool, true, false, List, [], ◌∷◌, map, get_or, Option, None, Some, option_map, Ok, refl, ap}
use Rattle.std.specs.List.{filter_map, range_with_len}
use Rattle.axis_sets.specs.Sets.{has}
use Rattle.block_motions.specs.Goals.{ConditionsView, goal_by_name, have_axes, goals_of, is_any}
use Rattle.block_motions.specs.Motions.{goal_at, is_in_reach, are_in_reach, is_own, are_own, end_from, end_for, ends_from, straight_motion_to, straight_motion, is_rapid}
use Rattle.block_motions.specs.declared.goals.Goal.{Goal}
use Rattle.block_motions.specs.declared.goals.Programmed.{Programmed}
use Rattle.block_motions.specs.declared.goals.Targets.{Targets}
use Rattle.block_motions.proofs.Reaches.{all_from}

none_at : (values : List (Option Programmed)) (k : ℕ) → is_any values ≡ false → get_or values k None ≡ None
none_at [] k none = refl
none_at (None ∷ values) zero none = refl
none_at (None ∷ values) (suc k) none = none_at values k none
none_at (Some p ∷ values) k none = absurd cc

none_named : (h : ConditionsView) (values : List (Option Programmed)) (k : ℕ) → is_any values ≡ false
    → get_or (map (λ value. option_map (goal_by_name h) value) values) k None ≡ None
none_named h [] k none = refl
none_named h (None ∷ values) zero none = refl
none_named h (None ∷ values) (suc k) none = none_named h values k none
none_named h (Some p ∷ values) k none = absurd cc

-- a list of what is made of each number of a range is empty where nothing is
no_items : {A : Type 0} (f : ℕ → Option A) (low n : ℕ) → ((k : ℕ) → f k ≡ None) → filter_map f (range_with_len low n) ≡ []
no_items f low zero none = refl
no_items f low (suc n) none = rw (none low) (no_items f (low + 1) n none)

module _ (owned : List Bool) (at : ℕ → ℤ) (goals : List (Option Goal)) (none : (k : ℕ) → goal_at goals k ≡ None) where
  reached : are_in_reach owned at goals ≡ true
  unfolding are_in_reach
  reached = all_from (λ axis. is_in_reach (has owned axis) (at axis) (goal_at goals axis)) 0 AXIS_LIMIT (λ k from below. ap (is_in_reach (has owned k) (at k)) (none k))

  own : are_own owned goals ≡ true
  unfolding are_own
  own = all_from (λ axis. is_own (has owned axis) (goal_at goals axis)) 0 AXIS_LIMIT (λ k from below. ap (is_own (has owned k)) (none k))

  no_ends : ends_from at goals ≡ []
  no_ends =
      no_items (λ axis. option_map (λ end. (axis, at axis, end)) (end_for at goals axis)) 0 AXIS_LIMIT
      (λ k. ap (λ goal. option_map (λ end. (k, at k, end)) (option_map (end_from (at k)) goal)) (none k))

  unmoved_to : (rapid : Bool) → straight_motion_to owned at rapid goals ≡ Ok None
  unfolding straight_motion_to
  unmoved_to rapid = rw (reached, own, no_ends) refl

module _ (slots : List (Option ℕ)) (h : ConditionsView) (targets : Targets) (no_slots : is_any targets.slots ≡ false) (no_axes : is_any targets.axes ≡ false) where
  have_all : have_axes slots h targets.slots ≡ true
  unfolding have_axes
  have_all = rw (none_at targets.slots 0 no_slots, none_at targets.slots 1 no_slots, none_at targets.slots 2 no_slots) refl

  no_goals : (k : ℕ) → goal_at (goals_of slots h targets) k ≡ None
  unfolding goals_of
  no_goals k = rw (none_at targets.slots 0 no_slots, none_at targets.slots 1 no_slots, none_at targets.slots 2 no_slots) (none_named h targets.axes k no_axes)

  pub unmoved : (owned : List Bool) (at : ℕ → ℤ) → straight_motion slots owned h at targets ≡ Ok None
  unfolding straight_motion
  unmoved owned at = rw (have_all, no_slots, no_axes) (unmoved_to owned at (goals_of slots h targets) no_goals (is_rapid h))
