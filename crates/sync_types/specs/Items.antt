-- Meaning. What items do, and where they leave axes.
use Rattle.std.specs.Prelude.{◌≡◌, ℕ, ℤ, ◌-◌, Bool, List, [], filter_map, Option, None, Some, is_some, option_and_then, slice_get, slice_index_or, unwrap_or}
use Rattle.std.specs.List.{last_or}
use Rattle.axis_sets.specs.Positions.{stands}
use Rattle.path_geometry.specs.Motions.{axis_end}
use Rattle.path_geometry.specs.declared.motion.Motion.{Motion}
use Rattle.path_geometry.specs.declared.motion.Motion.TheVariants.{Line}
use Rattle.sync_types.specs.Views.{RunView}
use Rattle.sync_types.specs.declared.Item.{Item}
use Rattle.sync_types.specs.declared.Part.{Part}
use Rattle.sync_types.specs.declared.Part.TheVariants.{Move, Switch}

abbrev pub motion_in : Part → Option Motion
motion_in (Move motion) = Some motion
motion_in (Switch zone on) = None

-- the motion of an item; none where it switches a zone
abbrev pub motion_of : Item → Option Motion
motion_of item = motion_in item.part

-- an item moves axes
abbrev pub is_motion : Item → Bool
is_motion item = is_some (motion_of item)

-- the motion of a place, counted from 1, among what the channel of an entry did before its step; none where no motion is there
abbrev pub motion_at : RunView → ℕ → ℕ → Option Motion
motion_at run entry place = option_and_then motion_of (slice_get (slice_index_or run.items entry []) (place - 1))

abbrev pub movement_in : Part → Motion
movement_in (Move motion) = motion
movement_in (Switch zone on) = Line (record { axes = [] })

-- how an item moves axes: by its motion; and where it switches a zone, by a line of no axis at all
abbrev pub movement_of : Item → Motion
movement_of item = movement_in item.part

-- the end that an item gives an axis; none where it has no motion, or its motion has not this axis
abbrev pub end_in : ℕ → Item → Option ℤ
end_in axis item = option_and_then (axis_end axis) (motion_of item)

-- where an axis stands after these items: at the end in the last that has this axis, or where it stood before them
unfoldable pub left_at : List Item → (ℕ → ℤ) → ℕ → ℤ
left_at items before axis = unwrap_or (last_or None (filter_map (λ item. end_in axis item) items)) (before axis)

-- the axes stand where the item leaves them, if there is one
abbrev pub StandsAtEnd : Option Item → List (Option ℤ) → List (Option ℤ) → Type 0
StandsAtEnd item old new = (axis : ℕ) → stands new axis ≡ unwrap_or (option_and_then (end_in axis) item) (stands old axis)

-- the axes stand where these items leave them
abbrev pub StandsAfter : List Item → List (Option ℤ) → List (Option ℤ) → Type 0
StandsAfter items start at = (axis : ℕ) → stands at axis ≡ left_at items (stands start) axis
