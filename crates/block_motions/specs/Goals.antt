-- Meaning. Where the programmed axes of a block go: X, Y and Z through the frame to the slots of the channel, other axes by their own names.
use Rattle.std.specs.Prelude.{◌≡◌, ℕ, ◌<◌, ℤ, pos, ◌+ℤ◌, ◌*ℤ◌, ◌==◌, ◌&&◌, ◌||◌, not, nat_le, Bool, true, false, if◌then◌else◌, List, [], map, slice_index, slice_index_or, slice_set, Option, None, Some, is_some, option_map}
use Rattle.std.specs.Int.RustNames.{unsigned_abs}
use Rattle.std.specs.List.{list_any}
use Rattle.std.specs.Ordering.{int_eq}
use Rattle.frames.specs.Composition.{IsComposed}
use Rattle.frames.specs.Images.{image_of}
use Rattle.frames.specs.Maps.{Map, mapped_point}
use Rattle.frames.specs.Places.{programmed_point, end_at, change_of}
use Rattle.g_groups.specs.Groups.{HasModalValue}
use Rattle.micro_units.specs.Rounding.{half_away}
use Rattle.nc_blocks.specs.declared.blocks.Measure.{Measure}
use Rattle.nc_blocks.specs.declared.blocks.Measure.TheVariants.{Modal, Absolute, Incremental}
use Rattle.block_motions.specs.declared.goals.Conditions.{Conditions}
use Rattle.block_motions.specs.declared.goals.Goal.{Goal}
use Rattle.block_motions.specs.declared.goals.Goal.TheVariants.{To, By, TooFar}
use Rattle.block_motions.specs.declared.goals.Programmed.{Programmed}
use Rattle.block_motions.specs.declared.goals.Targets.{Targets}
use Rattle.g_groups.specs.declared.numbers.TheConstants.{BLOCK_GROUP, DIAM90, DIAMETER_GROUP, DIAMON, DIMENSION_GROUP, PLANE_GROUP}
use Rattle.micro_units.specs.declared.limits.TheConstants.{CHANGE_LIMIT}
use Rattle.micro_units.specs.Position.{is_position}

-- the axes X, Y and Z are 0, 1 and 2, and so are the slots of a channel

-- ---- what holds in a block

-- the code of the word of each group, the programmable frame, and of each slot the settable offset and the length of the tool, in micrometres
pub record ConditionsView : Type 0 where
  pub word : ℕ → ℕ
  pub chain : List Map
  pub offset : ℕ → ℤ
  pub length : ℕ → ℤ

-- G53, G153 and SUPA, the words of group 9, take the empty frame and no offset for their block
abbrev pub chain_in : ConditionsView → List Map
chain_in h = if h.word BLOCK_GROUP == 0 then h.chain else []

abbrev pub offset_in : ConditionsView → ℕ → ℤ
offset_in h slot = if h.word BLOCK_GROUP == 0 then h.offset slot else pos 0

-- a tool of some length is used, under G17 or G19: its lengths lie in the plane of G18
abbrev pub is_off_plane : ConditionsView → Bool
is_off_plane h = (h.word PLANE_GROUP == 17 || h.word PLANE_GROUP == 19) && not (int_eq (h.length 0) (pos 0) && int_eq (h.length 2) (pos 0))

-- a value is a change with IC, and under G91 without AC
abbrev pub is_change : ConditionsView → Measure → Bool
is_change h Modal = h.word DIMENSION_GROUP == 91
is_change h Absolute = false
is_change h Incremental = true

-- a value of X is a diameter under DIAMON, and under DIAM90 where it is no change; these are the words 1 and 3 of group 29
abbrev pub is_diameter : ConditionsView → ℕ → Bool → Bool
is_diameter h axis change = axis == 0 && (h.word DIAMETER_GROUP == DIAMON || (h.word DIAMETER_GROUP == DIAM90 && not change))

-- twice the value that goes through the frame, in millionths of a millimetre: of a diameter goes the half
abbrev pub twice_of : ConditionsView → ℕ → Programmed → ℤ
twice_of h axis p = if is_diameter h axis (is_change h p.measure) then p.value else p.value *ℤ pos 2

-- ---- goals

abbrev pub position_at : ℤ → Goal
position_at at = if is_position at then To at else TooFar

abbrev pub change_by : ℤ → Goal
change_by change = if nat_le (unsigned_abs change) CHANGE_LIMIT then By change else TooFar

-- the point that has a value on one axis and 0 on the others, all of them twice
abbrev pub on_axis : ℕ → ℤ → ℕ → ℤ
on_axis axis twice other = if other == axis then twice else pos 0

-- the slot to which the frame sends X, Y or Z
abbrev pub slot_of : ConditionsView → ℕ → ℕ
slot_of h axis = (image_of (chain_in h) axis).slot

-- where it goes: through the frame, and by the offset of its slot, rounded once
abbrev pub place_of : ConditionsView → ℕ → ℤ → ℤ
place_of h axis twice = end_at (mapped_point (chain_in h) (programmed_point (on_axis axis twice))) (slot_of h axis) (offset_in h (slot_of h axis))

-- a position with a length more; both it and the position itself are to be in range
abbrev pub lengthened : ℤ → Goal → Goal
lengthened length (To at) = position_at (at +ℤ length)
lengthened length (By change) = By change
lengthened length TooFar = TooFar

-- the goal of X, Y or Z with this value: an end has the length of the tool in its slot, a change has none
abbrev pub goal_through : ConditionsView → ℕ → Programmed → Goal
goal_through h axis p =
    if is_change h p.measure then change_by (change_of (image_of (chain_in h) axis) (twice_of h axis p))
    else lengthened (h.length (slot_of h axis)) (position_at (place_of h axis (twice_of h axis p)))

-- an axis by its own name goes without frame, offset and diameter
abbrev pub goal_by_name : ConditionsView → Programmed → Goal
goal_by_name h p = if is_change h p.measure then change_by (half_away p.value 1000) else position_at (half_away p.value 1000)

-- ---- the goals of a block

-- one of these values is programmed
abbrev pub is_any : List (Option Programmed) → Bool
is_any values = list_any (λ value. is_some value) values

-- X, Y or Z is programmed, or an axis by its own name
abbrev pub is_programmed : Targets → Bool
is_programmed targets = is_any targets.slots || is_any targets.axes

-- the axis that X, Y or Z moves: the one in the slot to which the frame sends it
abbrev pub axis_in : List (Option ℕ) → ConditionsView → ℕ → Option ℕ
axis_in slots h axis = slice_index_or slots (slot_of h axis) None

-- where X, Y or Z is programmed, there is an axis that it moves
abbrev pub has_axis : List (Option ℕ) → ConditionsView → ℕ → Option Programmed → Bool
has_axis slots h axis None = true
has_axis slots h axis (Some p) = is_some (axis_in slots h axis)

abbrev pub value_at : List (Option Programmed) → ℕ → Option Programmed
value_at values axis = slice_index_or values axis None

unfoldable pub have_axes : List (Option ℕ) → ConditionsView → List (Option Programmed) → Bool
have_axes slots h values = has_axis slots h 0 (value_at values 0) && (has_axis slots h 1 (value_at values 1) && has_axis slots h 2 (value_at values 2))

-- the goals by the numbers of the axes, with one more
abbrev pub put : List (Option Goal) → Option ℕ → Goal → List (Option Goal)
put goals None goal = goals
put goals (Some axis) goal = slice_set goals axis (Some goal)

-- with that of X, Y or Z, if it is programmed
abbrev pub with_goal : List (Option ℕ) → ConditionsView → ℕ → Option Programmed → List (Option Goal) → List (Option Goal)
with_goal slots h axis None goals = goals
with_goal slots h axis (Some p) goals = put goals (axis_in slots h axis) (goal_through h axis p)

unfoldable pub goals_of : List (Option ℕ) → ConditionsView → Targets → List (Option Goal)
goals_of slots h targets =
    with_goal slots h 2 (value_at targets.slots 2) (with_goal slots h 1 (value_at targets.slots 1) (with_goal slots h 0 (value_at targets.slots 0)
    (map (λ value. option_map (goal_by_name h) value) targets.axes)))

-- ---- answers

-- the code keeps what holds: the words by groups, the composition of the frame, and the offsets and the lengths of the three slots
pub record AreInForce (h : ConditionsView) (kept : Conditions) : Type 0 where
  pub words : (group : ℕ) → HasModalValue group → slice_index kept.modal group ≡ h.word group
  pub frame : IsComposed h.chain kept.frame
  pub offsets : (slot : ℕ) → slot < 3 → slice_index_or kept.offsets slot (pos 0) ≡ h.offset slot
  pub lengths : (slot : ℕ) → slot < 3 → slice_index_or kept.lengths slot (pos 0) ≡ h.length slot
