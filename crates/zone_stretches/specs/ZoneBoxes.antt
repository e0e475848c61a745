-- Meaning. The boxes of a zone: where its sides stand, and the boxes that a span gives it.
use Rattle.std.specs.Prelude.{◌<◌, All, ℕ, suc, ℤ, ◌+ℤ◌, ◌-ℤ◌, ◌==◌, Bool, true, false, if◌then◌else◌, List, [], ◌∷◌, ◌++◌, map, Option, None, Some, find}
use Rattle.std.specs.List.{list_any}
use Rattle.std.specs.Option.{option_map, option_map_or}
use Rattle.axis_sets.specs.declared.limits.TheConstants.{AXIS_LIMIT}
use Rattle.job_types.specs.Zones.{has_axis}
use Rattle.job_types.specs.declared.job.Side.{Side}
use Rattle.job_types.specs.declared.job.ZoneLine.{ZoneLine}
use Rattle.path_geometry.specs.Motions.{axes_of, IsSound}
use Rattle.swept_boxes.specs.Cover.{cover_of}
use Rattle.swept_boxes.specs.Ranges.{RangesView}
use Rattle.swept_boxes.specs.declared.Box3.{Box3}
use Rattle.sync_types.specs.Items.{movement_of}
use Rattle.sync_types.specs.declared.Item.{Item}
use Rattle.sync_types.specs.declared.Part.{Part}
use Rattle.sync_types.specs.declared.Part.TheVariants.{Move, Switch}
use Rattle.zone_stretches.specs.declared.sights.ZoneEffect.{ZoneEffect}
use Rattle.zone_stretches.specs.declared.sights.ZoneEffect.TheVariants.{Nothing, Turns, Moves}
use Rattle.zone_stretches.specs.declared.stretches.ZoneBox.{ZoneBox}

-- ---- where axes and sides stand

-- where the axes stand after a motion: at its ends, and elsewhere where they stood
unfoldable pub stand_after : Item → (ℕ → ℤ) → ℕ → ℤ
stand_after item at axis = option_map_or (λ e. e.2) (find (λ e. e.0 == axis) (axes_of (movement_of item))) (at axis)

-- a bound that an axis carries: added to its position, or where the zone goes against the axis less its position
abbrev pub carried_bound : ℤ → ℤ → Bool → ℤ
carried_bound bound position false = bound +ℤ position
carried_bound bound position true = bound -ℤ position

-- the low and the high bound of a direction whose axes are within low and high; where the zone goes against the axis the two change places
abbrev pub carried_low : Option (ℕ × Bool) → ℤ → (ℕ → ℤ) → (ℕ → ℤ) → ℤ
carried_low None lo low high = lo
carried_low (Some (axis, false)) lo low high = carried_bound lo (low axis) false
carried_low (Some (axis, true)) lo low high = carried_bound lo (high axis) true

abbrev pub carried_high : Option (ℕ × Bool) → ℤ → (ℕ → ℤ) → (ℕ → ℤ) → ℤ
carried_high None hi low high = hi
carried_high (Some (axis, false)) hi low high = carried_bound hi (high axis) false
carried_high (Some (axis, true)) hi low high = carried_bound hi (low axis) true

-- the bounds of a side: the margin grows it downwards and upwards
unfoldable pub side_low : ℤ → (ℕ → ℤ) → (ℕ → ℤ) → Side → ℤ
side_low margin low high side = carried_low side.carrier (side.lo -ℤ margin) low high

unfoldable pub side_high : ℤ → (ℕ → ℤ) → (ℕ → ℤ) → Side → ℤ
side_high margin low high side = carried_high side.carrier (side.hi +ℤ margin) low high

-- the box of a zone whose axes are within low and high, grown by the margin in each direction
unfoldable pub box_of : ℤ → List Side → (ℕ → ℤ) → (ℕ → ℤ) → Box3
box_of margin sides low high = record { lo = map (side_low margin low high) sides; hi = map (side_high margin low high) sides }

abbrev pub zone_box : ℤ → ZoneLine → (ℕ → ℤ) → (ℕ → ℤ) → Box3
zone_box margin zone low high = box_of margin zone.sides low high

-- the bounds of an axis within a piece of a motion; an axis that the motion has not stands
unfoldable pub low_in : RangesView → (ℕ → ℤ) → ℕ → ℤ
low_in ranges at axis = option_map_or (λ r. r.1) (find (λ r. r.0 == axis) ranges.axes) (at axis)

unfoldable pub high_in : RangesView → (ℕ → ℤ) → ℕ → ℤ
high_in ranges at axis = option_map_or (λ r. r.2) (find (λ r. r.0 == axis) ranges.axes) (at axis)

-- ---- what an item is to a zone

-- an axis of the zone is among the axes of the motion, whether or not it moves there
unfoldable pub moves_zone : ZoneLine → Item → Bool
moves_zone zone item = list_any (λ e. has_axis zone e.0) (axes_of (movement_of item))

-- an item is nothing to a zone, a switch of it, or a motion with an axis of it
abbrev pub sight_of : ZoneLine → Item → Part → ZoneEffect
sight_of zone item (Switch number on) = if number == zone.zone then Turns on else Nothing
sight_of zone item (Move motion) = if moves_zone zone item then Moves else Nothing

abbrev pub seen : ZoneLine → Item → ZoneEffect
seen zone item = sight_of zone item item.part

-- an item switches the zone, or leaves it as it is
abbrev pub turned : Bool → ZoneEffect → Bool
turned on (Turns new) = new
turned on other = on

-- so it is after these items
abbrev pub on_after : ZoneLine → Bool → List Item → Bool
on_after zone on [] = on
on_after zone on (item ∷ items) = on_after zone (turned on (seen zone item)) items

-- ---- the boxes of a span

-- A box of a zone in a span: it holds the places from the first up to the last. It stands, and then has the line with which its part
-- began, or belongs to the motion of a place. The channel's axes stand so as it begins or as its motion begins.
pub record PlaceBox : Type 0 where
  pub from : ℕ
  pub to : ℕ
  pub motion : Option (ℕ × Item)
  pub line : ℕ
  pub at : ℕ → ℤ

-- the box that is open at a place: none while the zone is off; one that waits for the first motion of its part; or that of a motion
pub data Opened : Type 0 where
  Shut : Opened
  Waiting : (from line : ℕ) → (ℕ → ℤ) → Opened
  Moving : (from place : ℕ) → Item → (ℕ → ℤ) → Opened

-- what is open, as its last place
abbrev pub closed : ℕ → Opened → List PlaceBox
closed to Shut = []
closed to (Waiting from line at) = record { from = from; to = to; motion = None; line = line; at = at } ∷ []
closed to (Moving from place item at) = record { from = from; to = to; motion = Some (place, item); line = item.line; at = at } ∷ []

-- an item that has the next place ends the box before it where it switches the zone off, or moves it once more
abbrev pub closed_before : ℕ → Opened → ZoneEffect → List PlaceBox
closed_before to (Moving from place item at) Moves = closed to (Moving from place item at)
closed_before to opened (Turns false) = closed to opened
closed_before to opened other = []

-- What is open from the place of this item on; the axes stand so before it. The first motion of a part takes over the box from the part's beginning, and
-- each other motion has a box of its own. A zone that is switched on and is on goes on.
abbrev pub next_open : ℕ → (ℕ → ℤ) → Item → Opened → ZoneEffect → Opened
next_open place at item opened (Turns false) = Shut
next_open place at item Shut (Turns true) = Waiting place item.line at
next_open place at item (Waiting from line began) Moves = Moving from place item at
next_open place at item (Moving from before first began) Moves = Moving place place item at
next_open place at item opened other = opened

-- the boxes from a place on, after which these items come; the axes stand so before them
abbrev pub walk : ZoneLine → ℕ → Opened → (ℕ → ℤ) → List Item → List PlaceBox
walk zone place opened at [] = closed place opened
walk zone place opened at (item ∷ items) =
    closed_before place opened (seen zone item)
    ++ walk zone (suc place) (next_open (suc place) at item opened (seen zone item)) (stand_after item at) items

-- the boxes of a zone that is on or off as the span begins, with this line and the channel's axes so, while its holder does this: place 0 is the
-- beginning, and each item has a place
unfoldable pub boxes_of : ZoneLine → Bool → ℕ → (ℕ → ℤ) → List Item → List PlaceBox
boxes_of zone on line at items = walk zone 0 (if on then Waiting 0 line at else Shut) at items

-- ---- as they are compared

-- a motion is sound, and moves axes of the row of positions
pub record IsFit (item : Item) : Type 0 where
  pub sound : IsSound (movement_of item)
  pub within : All (λ e. e.0 < AXIS_LIMIT) (axes_of (movement_of item))

-- what the zone covers during a box: the zone box of the cover of its motion, or where it stands
abbrev pub cover_during : ℤ → ZoneLine → (ℕ → ℤ) → Option (ℕ × Item) → Box3
cover_during margin zone at None = zone_box margin zone at at
cover_during margin zone at (Some (place, item)) = zone_box margin zone (low_in (cover_of (movement_of item)) at) (high_in (cover_of (movement_of item)) at)

unfoldable pub shown_box : ℤ → ZoneLine → PlaceBox → ZoneBox
shown_box margin zone box = record {
  line = box.line;
  motion = option_map (λ moved. moved.0) box.motion;
  from = box.from;
  to = box.to;
  cover = cover_during margin zone box.at box.motion;
}
