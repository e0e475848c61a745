-- The alarms of motions are in the table of alarms.
use Rattle.std.proofs.Common.{◌≡◌, ℕ, ℤ, pos, Bool, true, false, not, ◌&&◌, cond, List, Option, None, Some, Result, Ok, Err, subst, refl}
use Rattle.std.specs.Prelude.{int_lt, unsigned_abs}
use Rattle.fault_codes.specs.Codes.{IsAlarmCode, alarm_codes}
use Rattle.frames.specs.declared.Plane.{Plane}
use Rattle.path_geometry.specs.Arcs.{arc_with, unless_alarm, centre_alarm, arc_about, radius_alarm, centre_of, place_alarm, arc_placed, arc_of_radius}
use Rattle.path_geometry.specs.Ends.{EndsView}
use Rattle.path_geometry.specs.Vectors.{Vector}
use Rattle.path_geometry.specs.declared.motion.Motion.{Motion}
use Rattle.path_geometry.specs.declared.motion.Motion.TheVariants as Kind
use Rattle.block_motions.specs.declared.goals.Goal.{Goal}
use Rattle.block_motions.specs.declared.goals.Targets.{Targets}
use Rattle.block_motions.specs.Goals.{ConditionsView, have_axes, goals_of, is_off_plane, is_programmed}
use Rattle.block_motions.specs.Motions.{are_in_reach, are_own, ends_from, is_rapid, motion_if_any, straight_motion_to, straight_motion}
use Rattle.block_motions.specs.Arcs.{place_from, goal_on, arc_about_places, arc_by_words, radius_of, arc_of_size, arc_by_size, arc_given, can_run, some_motion, arc_to, sides_in, have_one_factor, is_backward, in_turn, arc_goals, arc_between, arc_through, moves_arc, is_given, is_in_plane, plane_of, arc_motion}
use Rattle.block_motions.specs.Sides.{SideView}
use Rattle.block_motions.specs.declared.words.ArcWords.{ArcWords}

pub listed_13 : IsAlarmCode 13
unfolding IsAlarmCode alarm_codes
listed_13 = refl

pub listed_14 : IsAlarmCode 14
unfolding IsAlarmCode alarm_codes
listed_14 = refl

listed_15 : IsAlarmCode 15
unfolding IsAlarmCode alarm_codes
listed_15 = refl

pub listed_18 : IsAlarmCode 18
unfolding IsAlarmCode alarm_codes
listed_18 = refl

listed_19 : IsAlarmCode 19
unfolding IsAlarmCode alarm_codes
listed_19 = refl

listed_20 : IsAlarmCode 20
unfolding IsAlarmCode alarm_codes
listed_20 = refl

listed_21 : IsAlarmCode 21
unfolding IsAlarmCode alarm_codes
listed_21 = refl

listed_22 : IsAlarmCode 22
unfolding IsAlarmCode alarm_codes
listed_22 = refl

listed_23 : IsAlarmCode 23
unfolding IsAlarmCode alarm_codes
listed_23 = refl

listed_35 : IsAlarmCode 35
unfolding IsAlarmCode alarm_codes
listed_35 = refl

-- ---- the alarm of an arc, if it has one

record IsListed {A : Type 0} (answer : Result A ℕ) : Type 0 where
  listed : (code : ℕ) → answer ≡ Err code → IsAlarmCode code

record IsNoneOr (alarm : Option ℕ) : Type 0 where
  listed : (code : ℕ) → alarm ≡ Some code → IsAlarmCode code

no_alarm : {A : Type 0} (answer : A) → IsListed {A = A} (Ok answer)
no_alarm answer = record { listed = λ code is. absurd cc }

this_alarm : {A : Type 0} (first : ℕ) → IsAlarmCode first → IsListed {A = A} (Err first)
this_alarm {A} first listed =
    record { listed = λ code is. let same : first ≡ code = cc in subst IsAlarmCode same listed }

none : IsNoneOr None
none = record { listed = λ code is. absurd cc }

some : (first : ℕ) → IsAlarmCode first → IsNoneOr (Some first)
some first listed = record { listed = λ code is. let same : first ≡ code = cc in subst IsAlarmCode same listed }

either : {A : Type 0} (b : Bool) (first : ℕ) (answer : Result A ℕ) → IsAlarmCode first → IsListed answer → IsListed (cond (not b) (Err first) answer)
either true first answer listed rest = rest
either false first answer listed rest = this_alarm first listed

unless_this : {A : Type 0} (b : Bool) (first : ℕ) (answer : Result A ℕ) → IsAlarmCode first → IsListed answer → IsListed (cond b (Err first) answer)
unless_this true first answer listed rest = this_alarm first listed
unless_this false first answer listed rest = rest

first_of : (b : Bool) (first : ℕ) (later : Option ℕ) → IsAlarmCode first → IsNoneOr later → IsNoneOr (cond b (Some first) later)
first_of true first later listed rest = some first listed
first_of false first later listed rest = rest

past_alarm : (o : Option ℕ) (answer : Result Motion ℕ) → IsNoneOr o → IsListed answer → IsListed (unless_alarm o answer)
past_alarm None answer listed rest = rest
past_alarm (Some code) answer listed rest = this_alarm code (listed.listed code refl)

centre_listed : (full : Bool) (s e : Vector) → IsNoneOr (centre_alarm full s e)
unfolding centre_alarm
centre_listed full s e = first_of _ 22 _ listed_22 (first_of _ 20 _ listed_20 (first_of _ 21 None listed_21 none))

about_listed : (ends : EndsView) (first second : ℕ) (centre : ℤ × ℤ) → IsListed (arc_about ends first second centre)
unfolding arc_about
about_listed ends first second centre = past_alarm _ (Ok (Kind.Arc (arc_with ends first second centre 0))) (centre_listed _ _ _) (no_alarm _)

way_listed : (way : Vector) (radius : ℕ) → IsNoneOr (radius_alarm way radius)
unfolding radius_alarm
way_listed way radius = first_of _ 21 _ listed_21 (first_of _ 22 None listed_22 none)

place_listed : (centre : ℤ × ℤ) (s e : Vector) → IsNoneOr (place_alarm centre s e)
unfolding place_alarm
place_listed centre s e = first_of _ 13 _ listed_13 (first_of _ 22 None listed_22 none)

placed_listed : (ends : EndsView) (first second : ℕ) (centre : ℤ × ℤ) → IsListed (arc_placed ends first second centre)
unfolding arc_placed
placed_listed ends first second centre = past_alarm _ (Ok (Kind.Arc (arc_with ends first second centre 2))) (place_listed _ _ _) (no_alarm _)

radius_listed : (ends : EndsView) (first second radius : ℕ) (long : Bool) → IsListed (arc_of_radius ends first second radius long)
unfolding arc_of_radius
radius_listed ends first second radius long = past_alarm _ _ (way_listed _ _) (placed_listed ends first second (centre_of ends first second radius long))

-- ---- the alarm of the block

module _ (sides : SideView × SideView) (ends : EndsView) where
  places_listed : (first second : Option ℤ) → IsListed (arc_about_places ends sides first second)
  places_listed None second = this_alarm 13 listed_13
  places_listed (Some first) None = this_alarm 13 listed_13
  places_listed (Some first) (Some second) = about_listed ends sides.0.moved sides.1.moved (first, second)

  size_listed : (long : Bool) (size : Option ℤ) → IsListed (arc_of_size ends sides long size)
  size_listed long None = this_alarm 13 listed_13
  size_listed long (Some size) = radius_listed ends sides.0.moved sides.1.moved (unsigned_abs size) long

  given_listed : (h : ConditionsView) (at : ℕ → ℤ) (words : ArcWords) (radius : Option ℤ) → IsListed (arc_given h at words radius sides ends)
  unfolding arc_by_words arc_by_size
  given_listed h at words None =
      places_listed (place_from (at sides.0.moved) (goal_on h words sides.0)) (place_from (at sides.1.moved) (goal_on h words sides.1))
  given_listed h at words (Some radius) = size_listed (int_lt radius (pos 0)) (radius_of h sides.0.axis radius)

some_listed : (answer : Result Motion ℕ) → IsListed answer → IsListed (some_motion answer)
some_listed (Ok motion) listed = no_alarm _
some_listed (Err code) listed = this_alarm code (listed.listed code refl)

module _ (owned : List Bool) (h : ConditionsView) (at : ℕ → ℤ) (words : ArcWords) where
  to_listed : (sides : SideView × SideView) (goals : List (Option Goal)) → IsListed (arc_to owned h at words sides goals)
  unfolding arc_to
  to_listed sides goals =
      let ends : EndsView = record { axes = ends_from at goals } in
      either (are_in_reach owned at goals) 13 _ listed_13
      (either (are_own owned goals) 15 _ listed_15
      (either (can_run sides ends) 13 _ listed_13 (some_listed (arc_given h at words words.radius sides ends) (given_listed sides ends h at words words.radius))))

  between_listed : (slots : List (Option ℕ)) (targets : Targets) (plane : Plane) (sides : Option (SideView × SideView)) → IsListed (arc_between slots owned h at targets words plane sides)
  between_listed slots targets plane None = this_alarm 14 listed_14
  between_listed slots targets plane (Some sides) =
      unless_this (is_off_plane h) 35 _ listed_35
      (either (have_one_factor h plane) 23 _ listed_23 (to_listed (in_turn (is_backward h plane) sides) (arc_goals slots h targets sides)))

  through_listed : (slots : List (Option ℕ)) (targets : Targets) (plane : Plane) → IsListed (arc_through slots owned h at targets words plane)
  unfolding arc_through
  through_listed slots targets plane = either (have_axes slots h targets.slots) 14 _ listed_14 (between_listed slots targets plane (sides_in slots h plane))

  moves_listed : (b : Bool) (answer : Result (Option Motion) ℕ) → IsListed answer → IsListed (cond (not b) (Ok None) answer)
  moves_listed true answer listed = listed
  moves_listed false answer listed = no_alarm None

  arc_listed : (slots : List (Option ℕ)) (targets : Targets) → IsListed (arc_motion slots owned h at targets words)
  unfolding arc_motion
  arc_listed slots targets =
      moves_listed (moves_arc targets words) _
      (either (is_given words) 18 _ listed_18 (either (is_in_plane (plane_of h) words) 19 _ listed_19 (through_listed slots targets (plane_of h))))

  pub arc_alarm_listed : (slots : List (Option ℕ)) (targets : Targets) (code : ℕ) → arc_motion slots owned h at targets words ≡ Err code → IsAlarmCode code
  arc_alarm_listed slots targets code is = (arc_listed slots targets).listed code is

-- ---- the alarm of a line or a rapid

straight_to_listed : (owned : List Bool) (at : ℕ → ℤ) (rapid : Bool) (goals : List (Option Goal)) → IsListed (straight_motion_to owned at rapid goals)
unfolding straight_motion_to
straight_to_listed owned at rapid goals =
    either (are_in_reach owned at goals) 13 _ listed_13 (either (are_own owned goals) 15 _ listed_15 (no_alarm (motion_if_any rapid (ends_from at goals))))

straight_listed : (slots : List (Option ℕ)) (owned : List Bool) (h : ConditionsView) (at : ℕ → ℤ) (targets : Targets) → IsListed (straight_motion slots owned h at targets)
unfolding straight_motion
straight_listed slots owned h at targets =
    either (have_axes slots h targets.slots) 14 _ listed_14
    (unless_this (is_programmed targets && is_off_plane h) 35 _ listed_35 (straight_to_listed owned at (is_rapid h) (goals_of slots h targets)))

pub straight_alarm_listed : (slots : List (Option ℕ)) (owned : List Bool) (h : ConditionsView) (at : ℕ → ℤ) (targets : Targets) (code : ℕ)
    → straight_motion slots owned h at targets ≡ Err code → IsAlarmCode code
straight_alarm_listed slots owned h at targets code is = (straight_listed slots owned h at targets).listed code is
