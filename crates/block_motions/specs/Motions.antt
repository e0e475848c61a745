-- Meaning. The motion of a block by a line or as a rapid, and where it takes the axes of the channel.
use Rattle.std.specs.Prelude.{⊤, ◌≡◌, ◌≢◌, ◌<◌, All, AllPairs, ℕ, ℤ, ◌+ℤ◌, ◌==◌, ◌&&◌, ◌||◌, not, Bool, true, false, if◌then◌else◌, List, [], ◌∷◌, filter_map, slice_index_or, Option, None, Some, option_map, option_and_then, unwrap_or, Result, Ok, Err}
use Rattle.std.specs.List.{list_all, range_with_len}
use Rattle.axis_sets.specs.Positions.{stands}
use Rattle.axis_sets.specs.Sets.{has}
use Rattle.path_geometry.specs.Ends.{EndsView}
use Rattle.path_geometry.specs.Motions.{axes_of, axis_end, IsSound}
use Rattle.micro_units.specs.Position.{IsPosition, is_position}
use Rattle.path_geometry.specs.declared.motion.Motion.{Motion}
use Rattle.path_geometry.specs.declared.motion.Motion.TheVariants.{Line, Rapid}
use Rattle.block_motions.specs.declared.goals.Goal.{Goal}
use Rattle.block_motions.specs.declared.goals.Goal.TheVariants.{To, By, TooFar}
use Rattle.block_motions.specs.declared.goals.Targets.{Targets}
use Rattle.block_motions.specs.Goals.{ConditionsView, have_axes, goals_of, is_off_plane, is_programmed}
use Rattle.fault_codes.specs.declared.alarms.TheConstants.{AXIS_NOT_OWNED, NO_SUCH_AXIS, OUT_OF_RANGE, TOOL_PLANE}
use Rattle.axis_sets.specs.declared.limits.TheConstants.{AXIS_LIMIT}
use Rattle.g_groups.specs.declared.numbers.TheConstants.{MOTION_GROUP, RAPID_GROUP, RTLIOF}

-- ---- goals and ends

-- where an axis ends that starts there
abbrev pub end_from : ℤ → Goal → ℤ
end_from start (To end) = end
end_from start (By change) = start +ℤ change
end_from start TooFar = start

-- a goal is in reach: a position, or a change that ends at one; where an axis stands that the channel does not own is not asked
abbrev pub is_goal_in_reach : Bool → ℤ → Goal → Bool
is_goal_in_reach owned start (To end) = true
is_goal_in_reach owned start (By change) = not owned || is_position (start +ℤ change)
is_goal_in_reach owned start TooFar = false

abbrev pub goal_at : List (Option Goal) → ℕ → Option Goal
goal_at goals axis = slice_index_or goals axis None

-- no goal, or one in reach
abbrev pub is_in_reach : Bool → ℤ → Option Goal → Bool
is_in_reach owned start None = true
is_in_reach owned start (Some goal) = is_goal_in_reach owned start goal

unfoldable pub are_in_reach : List Bool → (ℕ → ℤ) → List (Option Goal) → Bool
are_in_reach owned at goals = list_all (λ axis. is_in_reach (has owned axis) (at axis) (goal_at goals axis)) (range_with_len 0 AXIS_LIMIT)

-- each axis reaches its goal, if it has one
abbrev pub AreReached : (ℕ → ℤ) → List (Option Goal) → Type 0
AreReached at goals = (axis : ℕ) → axis < AXIS_LIMIT → is_in_reach true (at axis) (goal_at goals axis) ≡ true

-- no goal, or one of an axis that the channel owns
abbrev pub is_own : Bool → Option Goal → Bool
is_own owned None = true
is_own owned (Some goal) = owned

unfoldable pub are_own : List Bool → List (Option Goal) → Bool
are_own owned goals = list_all (λ axis. is_own (has owned axis) (goal_at goals axis)) (range_with_len 0 AXIS_LIMIT)

-- the end of an axis that starts where it stands
abbrev pub end_for : (ℕ → ℤ) → List (Option Goal) → ℕ → Option ℤ
end_for at goals axis = option_map (end_from (at axis)) (goal_at goals axis)

-- the axes with goals in the order of their numbers, each from where it stands to its end
abbrev pub ends_from : (ℕ → ℤ) → List (Option Goal) → List (ℕ × ℤ × ℤ)
ends_from at goals = filter_map (λ axis. option_map (λ end. (axis, at axis, end)) (end_for at goals axis)) (range_with_len 0 AXIS_LIMIT)

-- each axis goes by itself under G0 with RTLIOF, the words 0 of group 1 and 2 of group 0
abbrev pub is_rapid : ConditionsView → Bool
is_rapid h = h.word MOTION_GROUP == 0 && h.word RAPID_GROUP == RTLIOF

-- a rapid, or else a straight line
abbrev pub motion_between : Bool → EndsView → Motion
motion_between rapid ends = if rapid then Rapid ends else Line ends

-- a block moves where an axis has a goal
abbrev pub motion_if_any : Bool → List (ℕ × ℤ × ℤ) → Option Motion
motion_if_any rapid [] = None
motion_if_any rapid (e ∷ ends) = Some (motion_between rapid (record { axes = e ∷ ends }))

-- the motion to these goals; alarm 13 where one is out of reach, then 15 where an axis is not the channel's own
unfoldable pub straight_motion_to : List Bool → (ℕ → ℤ) → Bool → List (Option Goal) → Result (Option Motion) ℕ
straight_motion_to owned at rapid goals =
    if not (are_in_reach owned at goals) then Err OUT_OF_RANGE
    else if not (are_own owned goals) then Err AXIS_NOT_OWNED
    else Ok (motion_if_any rapid (ends_from at goals))

-- the motion of a block, a line or a rapid, that programs these values, of a channel with these slots and axes, where this holds and the axes stand so; alarm 14, before the others, where the frame sends X, Y or Z to a slot without axis, and then 35 where it moves with a tool of some length under G17 or G19
unfoldable pub straight_motion : List (Option ℕ) → List Bool → ConditionsView → (ℕ → ℤ) → Targets → Result (Option Motion) ℕ
straight_motion slots owned h at targets =
    if not (have_axes slots h targets.slots) then Err NO_SUCH_AXIS
    else if is_programmed targets && is_off_plane h then Err TOOL_PLANE
    else straight_motion_to owned at (is_rapid h) (goals_of slots h targets)

-- the answer of one who puts a motion in its place
abbrev pub given_motion : Option Motion → Result ⊤ ℕ → Result (Option Motion) ℕ
given_motion motion (Ok done) = Ok motion
given_motion motion (Err code) = Err code

-- the axes stand at the ends of these goals, and elsewhere where they stood
abbrev pub StandsMoved : List (Option Goal) → List (Option ℤ) → List (Option ℤ) → Type 0
StandsMoved goals old new = (axis : ℕ) → stands new axis ≡ unwrap_or (end_for (stands old) goals axis) (stands old axis)

-- the axes stand at the end of the motion, if there is one, and elsewhere where they stood
abbrev pub StandsAtEndOf : Option Motion → List (Option ℤ) → List (Option ℤ) → Type 0
StandsAtEndOf motion old new = (axis : ℕ) → stands new axis ≡ unwrap_or (option_and_then (axis_end axis) motion) (stands old axis)

-- a motion of a block where the axes stand so: axes that the channel owns, each once, from where it stands to an end in range; it is sound where they stand in range
pub record IsMotionOf (axes : List Bool) (at : ℕ → ℤ) (motion : Motion) : Type 0 where
  pub once : AllPairs (λ e f. e.0 ≢ f.0) (axes_of motion)
  pub owned : All (λ e. has axes e.0 ≡ true) (axes_of motion)
  pub begins : All (λ e. e.1 ≡ at e.0) (axes_of motion)
  pub in_range : All (λ e. IsPosition e.2) (axes_of motion)
  pub sound : ((axis : ℕ) → IsPosition (at axis)) → IsSound motion
