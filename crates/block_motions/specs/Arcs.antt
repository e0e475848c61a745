-- Meaning. The motion of a block with an arc: about a centre or by a radius, in the plane of two of the axes X, Y and Z.
use Rattle.std.specs.Prelude.{ℕ, ℤ, pos, ◌+ℤ◌, ◌*ℤ◌, ◌==◌, ◌&&◌, ◌||◌, not, int_lt, Bool, true, false, if◌then◌else◌, List, slice_index_or, slice_set, Option, None, Some, is_some, is_none, Result, Ok, Err}
use Rattle.std.specs.Int.RustNames.{unsigned_abs}
use Rattle.std.specs.List.{list_all, list_any}
use Rattle.std.specs.Ordering.{int_eq}
use Rattle.block_motions.specs.declared.goals.Goal.{Goal}
use Rattle.block_motions.specs.declared.goals.Goal.TheVariants.{To, By, TooFar}
use Rattle.block_motions.specs.declared.goals.Programmed.{Programmed}
use Rattle.block_motions.specs.declared.goals.Targets.{Targets}
use Rattle.block_motions.specs.Goals.{ConditionsView, chain_in, change_by, goal_through, axis_in, have_axes, goals_of, is_any, is_off_plane}
use Rattle.block_motions.specs.Motions.{goal_at, are_in_reach, are_own, ends_from}
use Rattle.frames.specs.Images.{image_of, other_sign}
use Rattle.frames.specs.Maps.{first_axis, second_axis}
use Rattle.frames.specs.Places.{change_of}
use Rattle.frames.specs.declared.Plane.{Plane}
use Rattle.frames.specs.declared.Plane.TheVariants.{G17, G18, G19}
use Rattle.nc_blocks.specs.declared.blocks.Measure.{Measure}
use Rattle.nc_blocks.specs.declared.blocks.Measure.TheVariants.{Modal, Absolute, Incremental}
use Rattle.path_geometry.specs.Arcs.{arc_about, arc_of_radius}
use Rattle.path_geometry.specs.Ends.{EndsView}
use Rattle.micro_units.specs.Position.{is_position}
use Rattle.path_geometry.specs.declared.motion.Motion.{Motion}
use Rattle.block_motions.specs.Sides.{SideView}
use Rattle.block_motions.specs.declared.words.ArcWords.{ArcWords}
use Rattle.fault_codes.specs.declared.alarms.TheConstants.{ARC_SCALE, ARC_WORDS, AXIS_NOT_OWNED, CENTRE_OUTSIDE_PLANE, NO_SUCH_AXIS, OUT_OF_RANGE, TOOL_PLANE}
use Rattle.g_groups.specs.declared.numbers.TheConstants.{MOTION_GROUP, PLANE_GROUP}

-- the axes X, Y and Z are 0, 1 and 2; I, J and K are the words of the centre on them

-- ---- the words

abbrev pub moves_arc : Targets → ArcWords → Bool
moves_arc targets words = is_any targets.slots || (is_any targets.axes || is_any words.centre)

-- a radius that is not 0
abbrev pub is_radius : Option ℤ → Bool
is_radius None = false
is_radius (Some radius) = not (int_eq radius (pos 0))

-- either a centre or a radius is given
abbrev pub is_given : ArcWords → Bool
is_given words = if is_any words.centre then is_none words.radius else is_radius words.radius

-- the word of group 6 that holds; G18 where it is no other
abbrev pub plane_of : ConditionsView → Plane
plane_of h = if h.word PLANE_GROUP == 17 then G17 else if h.word PLANE_GROUP == 19 then G19 else G18

-- the axis that is not of the plane
abbrev pub axis_across : Plane → ℕ
axis_across G17 = 2
axis_across G18 = 1
axis_across G19 = 0

abbrev pub centre_word : ArcWords → ℕ → Option Programmed
centre_word words axis = slice_index_or words.centre axis None

abbrev pub is_in_plane : Plane → ArcWords → Bool
is_in_plane plane words = is_none (centre_word words (axis_across plane))

-- ---- the two sides of the plane

-- an axis of the plane, and the axis that it moves
abbrev pub side : ℕ → Option ℕ → Option SideView
side axis None = None
side axis (Some moved) = Some (record { axis = axis; moved = moved })

abbrev pub both : Option SideView → Option SideView → Option (SideView × SideView)
both None second = None
both (Some first) None = None
both (Some first) (Some second) = Some (first, second)

abbrev pub sides_in : List (Option ℕ) → ConditionsView → Plane → Option (SideView × SideView)
sides_in slots h plane =
    both (side (first_axis plane) (axis_in slots h (first_axis plane))) (side (second_axis plane) (axis_in slots h (second_axis plane)))

-- the frame has one factor for both
unfoldable pub have_one_factor : ConditionsView → Plane → Bool
have_one_factor h plane =
    let first = image_of (chain_in h) (first_axis plane) in
    let second = image_of (chain_in h) (second_axis plane) in
    int_eq (first.factor *ℤ pos second.under) (second.factor *ℤ pos first.under)

-- the arc turns from the second to the first: under G2, or where the frame mirrors one of the two, but not where both is so
abbrev pub is_backward : ConditionsView → Plane → Bool
is_backward h plane =
    other_sign (h.word MOTION_GROUP == 2) (other_sign (image_of (chain_in h) (first_axis plane)).minus (image_of (chain_in h) (second_axis plane)).minus)

-- the sides in the order in which the arc turns
abbrev pub in_turn : Bool → SideView × SideView → SideView × SideView
in_turn false sides = sides
in_turn true sides = (sides.1, sides.0)

-- ---- goals

-- an axis of the plane without a goal stays
abbrev pub goals_with_stay : List (Option Goal) → ℕ → List (Option Goal)
goals_with_stay goals axis = if is_some (goal_at goals axis) then goals else slice_set goals axis (Some (By (pos 0)))

abbrev pub arc_goals : List (Option ℕ) → ConditionsView → Targets → SideView × SideView → List (Option Goal)
arc_goals slots h targets sides = goals_with_stay (goals_with_stay (goals_of slots h targets) sides.0.moved) sides.1.moved

-- ---- the centre and the radius

abbrev pub is_absolute : Measure → Bool
is_absolute Modal = false
is_absolute Absolute = true
is_absolute Incremental = false

-- a word of the centre is a change from the start, and never a diameter; with AC it is read as an end
abbrev pub goal_of_word : ConditionsView → ℕ → Programmed → Goal
goal_of_word h axis p =
    if is_absolute p.measure then goal_through h axis p else change_by (change_of (image_of (chain_in h) axis) (p.value *ℤ pos 2))

-- where the centre goes from the start; nowhere without a word
abbrev pub centre_goal : ConditionsView → ℕ → Option Programmed → Goal
centre_goal h axis None = By (pos 0)
centre_goal h axis (Some p) = goal_of_word h axis p

abbrev pub goal_on : ConditionsView → ArcWords → SideView → Goal
goal_on h words side = centre_goal h side.axis (centre_word words side.axis)

-- a place in range
abbrev pub place_in_range : ℤ → Option ℤ
place_in_range place = if is_position place then Some place else None

-- where a goal leads from the start, if that is in range
abbrev pub place_from : ℤ → Goal → Option ℤ
place_from start (To end) = place_in_range end
place_from start (By change) = place_in_range (start +ℤ change)
place_from start TooFar = None

abbrev pub arc_about_places : EndsView → SideView × SideView → Option ℤ → Option ℤ → Result Motion ℕ
arc_about_places ends sides None second = Err OUT_OF_RANGE
arc_about_places ends sides (Some first) None = Err OUT_OF_RANGE
arc_about_places ends sides (Some first) (Some second) = arc_about ends sides.0.moved sides.1.moved (first, second)

-- the arc about the centre; alarm 13 where the centre is out of range, then its own alarms
unfoldable pub arc_by_words : ConditionsView → (ℕ → ℤ) → ArcWords → SideView × SideView → EndsView → Result Motion ℕ
arc_by_words h at words sides ends =
    arc_about_places ends sides (place_from (at sides.0.moved) (goal_on h words sides.0)) (place_from (at sides.1.moved) (goal_on h words sides.1))

-- the size of a change, if it is in range
abbrev pub size_of : Goal → Option ℤ
size_of (To end) = None
size_of (By change) = if is_position change then Some (pos (unsigned_abs change)) else None
size_of TooFar = None

-- a radius after the frame, without its sign
abbrev pub radius_of : ConditionsView → ℕ → ℤ → Option ℤ
radius_of h axis radius = size_of (change_by (change_of (image_of (chain_in h) axis) (pos (unsigned_abs radius) *ℤ pos 2)))

abbrev pub arc_of_size : EndsView → SideView × SideView → Bool → Option ℤ → Result Motion ℕ
arc_of_size ends sides long None = Err OUT_OF_RANGE
arc_of_size ends sides long (Some size) = arc_of_radius ends sides.0.moved sides.1.moved (unsigned_abs size) long

-- the arc by its radius, the longer one where it is below 0; alarm 13 where it is out of range, then its own alarms
unfoldable pub arc_by_size : ConditionsView → ℤ → SideView × SideView → EndsView → Result Motion ℕ
arc_by_size h radius sides ends = arc_of_size ends sides (int_lt radius (pos 0)) (radius_of h sides.0.axis radius)

abbrev pub arc_given : ConditionsView → (ℕ → ℤ) → ArcWords → Option ℤ → SideView × SideView → EndsView → Result Motion ℕ
arc_given h at words None sides ends = arc_by_words h at words sides ends
arc_given h at words (Some radius) sides ends = arc_by_size h radius sides ends

-- each axis starts and ends in range
abbrev pub run_in_range : EndsView → Bool
run_in_range ends = list_all (λ e. is_position e.1 && is_position e.2) ends.axes

abbrev pub is_moved : EndsView → SideView → Bool
is_moved ends side = list_any (λ e. e.0 == side.moved) ends.axes

-- the ends can be those of an arc: each axis starts and ends in range, and the two sides are different axes among them. The tests before let through no others, since no axis stands out of range or in two slots
abbrev pub can_run : SideView × SideView → EndsView → Bool
can_run sides ends = run_in_range ends && (is_moved ends sides.0 && (is_moved ends sides.1 && not (sides.0.moved == sides.1.moved)))

-- ---- answers

-- a block that has no alarm then moves
abbrev pub some_motion : Result Motion ℕ → Result (Option Motion) ℕ
some_motion (Ok motion) = Ok (Some motion)
some_motion (Err alarm) = Err alarm

-- the arc to these goals; alarm 13 where one is out of reach, 15 where an axis is not the channel's own; then the alarms of the arc
unfoldable pub arc_to : List Bool → ConditionsView → (ℕ → ℤ) → ArcWords → SideView × SideView → List (Option Goal) → Result (Option Motion) ℕ
arc_to owned h at words sides goals =
    let ends : EndsView = record { axes = ends_from at goals } in
    if not (are_in_reach owned at goals) then Err OUT_OF_RANGE
    else if not (are_own owned goals) then Err AXIS_NOT_OWNED
    else if not (can_run sides ends) then Err OUT_OF_RANGE
    else some_motion (arc_given h at words words.radius sides ends)

-- the arc in a plane; alarm 35 where a tool of some length is used under G17 or G19, then 23 where the frame has two factors in the plane
abbrev pub arc_between : List (Option ℕ) → List Bool → ConditionsView → (ℕ → ℤ) → Targets → ArcWords → Plane → Option (SideView × SideView) → Result (Option Motion) ℕ
arc_between slots owned h at targets words plane None = Err NO_SUCH_AXIS
arc_between slots owned h at targets words plane (Some sides) =
    if is_off_plane h then Err TOOL_PLANE
    else if not (have_one_factor h plane) then Err ARC_SCALE
    else arc_to owned h at words (in_turn (is_backward h plane) sides) (arc_goals slots h targets sides)

-- the arc of words that can be one; alarm 14 where the frame sends X, Y or Z, if it is programmed or of the plane, to a slot without axis
unfoldable pub arc_through : List (Option ℕ) → List Bool → ConditionsView → (ℕ → ℤ) → Targets → ArcWords → Plane → Result (Option Motion) ℕ
arc_through slots owned h at targets words plane =
    if not (have_axes slots h targets.slots) then Err NO_SUCH_AXIS
    else arc_between slots owned h at targets words plane (sides_in slots h plane)

-- the motion of a block under G2, or else G3, that programs these values and words, of a channel with these slots and axes, where this holds and the axes stand so; none without an axis and a centre. Alarm 18, before all others, where there is neither or both of a centre and a radius, or a radius of 0; then 19 where the centre has a word of an axis that is not of the plane
unfoldable pub arc_motion : List (Option ℕ) → List Bool → ConditionsView → (ℕ → ℤ) → Targets → ArcWords → Result (Option Motion) ℕ
arc_motion slots owned h at targets words =
    if not (moves_arc targets words) then Ok None
    else if not (is_given words) then Err ARC_WORDS
    else if not (is_in_plane (plane_of h) words) then Err CENTRE_OUTSIDE_PLANE
    else arc_through slots owned h at targets words (plane_of h)
