-- The goals of a block that are positions are in range.
use Rattle.std.proofs.Common.{◌≡◌, ℕ, zero, suc, ℤ, ◌+ℤ◌, Bool, true, false, cond, List, [], ◌∷◌, map, get_or, set, Option, None, Some, option_map, refl}
use Rattle.std.specs.Prelude.{⊤}
use Rattle.std.proofs.lemmas.Bool.{leb-true}
use Rattle.frames.specs.Images.{image_of}
use Rattle.frames.specs.Places.{change_of}
use Rattle.micro_units.specs.Rounding.{half_away}
use Rattle.micro_units.specs.Position.{IsPosition, is_position}
use Rattle.block_motions.specs.declared.goals.Goal.{Goal}
use Rattle.block_motions.specs.declared.goals.Goal.TheVariants.{To, By, TooFar}
use Rattle.block_motions.specs.declared.goals.Programmed.{Programmed}
use Rattle.block_motions.specs.declared.goals.Targets.{Targets}
use Rattle.block_motions.specs.Goals.{ConditionsView, position_at, change_by, is_change, chain_in, lengthened, slot_of, twice_of, place_of, goal_through, goal_by_name, axis_in, value_at, put, with_goal, goals_of}

abbrev pub IsFit : Option Goal → Type 0
IsFit None = ⊤
IsFit (Some (To end)) = IsPosition end
IsFit (Some (By change)) = ⊤
IsFit (Some TooFar) = ⊤

position_fit : (at : ℤ) → IsFit (Some (position_at at))
position_fit at = by_test (is_position at) refl
  where
    by_test : (b : Bool) → is_position at ≡ b → IsFit (Some (cond b (To at) TooFar))
    by_test true within = leb-true _ _ within
    by_test false within = tt

change_fit : (change : ℤ) → IsFit (Some (change_by change))
change_fit change = by_test _
  where
    by_test : (b : Bool) → IsFit (Some (cond b (By change) TooFar))
    by_test true = tt
    by_test false = tt

lengthened_fit : (length : ℤ) (goal : Goal) → IsFit (Some (lengthened length goal))
lengthened_fit length (To at) = position_fit (at +ℤ length)
lengthened_fit length (By change) = tt
lengthened_fit length TooFar = tt

through_place_fit : (b : Bool) (change length : ℤ) (place : Goal) → IsFit (Some (cond b (change_by change) (lengthened length place)))
through_place_fit true change length place = change_fit change
through_place_fit false change length place = lengthened_fit length place

either_fit : (b : Bool) (change at : ℤ) → IsFit (Some (cond b (change_by change) (position_at at)))
either_fit true change at = change_fit change
either_fit false change at = position_fit at

abbrev pub AllFit : List (Option Goal) → Type 0
AllFit goals = (axis : ℕ) → IsFit (get_or goals axis None)

module _ (h : ConditionsView) where
  through_fit : (axis : ℕ) (p : Programmed) → IsFit (Some (goal_through h axis p))
  through_fit axis p =
      through_place_fit (is_change h p.measure) (change_of (image_of (chain_in h) axis) (twice_of h axis p)) (h.length (slot_of h axis)) (position_at (place_of h axis (twice_of h axis p)))

  named_fit : (value : Option Programmed) → IsFit (option_map (goal_by_name h) value)
  named_fit None = tt
  named_fit (Some p) = either_fit (is_change h p.measure) (half_away p.value 1000) (half_away p.value 1000)

  all_named : (values : List (Option Programmed)) → AllFit (map (λ value. option_map (goal_by_name h) value) values)
  all_named [] axis = tt
  all_named (value ∷ values) zero = named_fit value
  all_named (value ∷ values) (suc axis) = all_named values axis

  set_fit : (goals : List (Option Goal)) (axis : ℕ) (goal : Option Goal) → IsFit goal → AllFit goals → AllFit (set goals axis goal)
  set_fit [] axis goal fit all k = tt
  set_fit (g ∷ goals) zero goal fit all zero = fit
  set_fit (g ∷ goals) zero goal fit all (suc k) = all (suc k)
  set_fit (g ∷ goals) (suc axis) goal fit all zero = all 0
  set_fit (g ∷ goals) (suc axis) goal fit all (suc k) = set_fit goals axis goal fit (λ i. all (suc i)) k

  put_fit : (goals : List (Option Goal)) (axis : Option ℕ) (goal : Goal) → IsFit (Some goal) → AllFit goals → AllFit (put goals axis goal)
  put_fit goals None goal fit all = all
  put_fit goals (Some axis) goal fit all = set_fit goals axis (Some goal) fit all

  with_fit : (slots : List (Option ℕ)) (axis : ℕ) (value : Option Programmed) (goals : List (Option Goal)) → AllFit goals → AllFit (with_goal slots h axis value goals)
  with_fit slots axis None goals all = all
  with_fit slots axis (Some p) goals all = put_fit goals (axis_in slots h axis) (goal_through h axis p) (through_fit axis p) all

  pub goals_fit : (slots : List (Option ℕ)) (targets : Targets) → AllFit (goals_of slots h targets)
  unfolding goals_of
  goals_fit slots targets =
      with_fit slots 2 (value_at targets.slots 2) _ (with_fit slots 1 (value_at targets.slots 1) _ (with_fit slots 0 (value_at targets.slots 0) _ (all_named targets.axes)))
