-- Steps. The boxes of a zone as the code makes them: an open box has its cover already, and its last place is yet to come.
use Rattle.std.specs.Prelude.{ℕ, suc, ℤ, Bool, true, false, is_some, if◌then◌else◌, List, [], ◌∷◌, ◌++◌, Option, Some, None}
use Rattle.std.specs.Option.{option_to_list}
use Rattle.job_types.specs.declared.job.ZoneLine.{ZoneLine}
use Rattle.sync_types.specs.declared.Item.{Item}
use Rattle.zone_stretches.specs.ZoneBoxes.{cover_during, seen, stand_after}
use Rattle.zone_stretches.specs.declared.sights.ZoneEffect.{ZoneEffect}
use Rattle.zone_stretches.specs.declared.sights.ZoneEffect.TheVariants.{Nothing, Turns, Moves}
use Rattle.zone_stretches.specs.declared.stretches.ZoneBox.{ZoneBox}

-- a box that stands from a place on, and one of a motion
unfoldable pub standing_box : ℤ → ZoneLine → ℕ → ℕ → (ℕ → ℤ) → ZoneBox
standing_box margin zone from line at = record { line = line; motion = None; from = from; to = from; cover = cover_during margin zone at None }

unfoldable pub moving_box : ℤ → ZoneLine → ℕ → ℕ → Item → (ℕ → ℤ) → ZoneBox
moving_box margin zone from place item at = record { line = item.line; motion = Some place; from = from; to = from; cover = cover_during margin zone at (Some (place, item)) }

-- an open box holds its places up to the last
abbrev pub box_until : ℕ → Option ZoneBox → Option ZoneBox
box_until to None = None
box_until to (Some box) = Some (record box { to = to })

abbrev pub if_it_moves : Option ZoneBox → Option ZoneBox
if_it_moves None = None
if_it_moves (Some box) = if is_some box.motion then Some box else None

-- what an item ends that has the next place
abbrev pub ended_before : ℕ → Option ZoneBox → ZoneEffect → Option ZoneBox
ended_before to opened Nothing = None
ended_before to opened (Turns true) = None
ended_before to opened (Turns false) = box_until to opened
ended_before to opened Moves = box_until to (if_it_moves opened)

-- from where a motion's box holds: one that waits has its places
abbrev pub taken_from : ℕ → ZoneBox → ℕ
taken_from place box = if is_some box.motion then place else box.from

-- what is open from the place of an item on
abbrev pub moved_on : ℤ → ZoneLine → ℕ → (ℕ → ℤ) → Item → Option ZoneBox → Option ZoneBox
moved_on margin zone place at item None = None
moved_on margin zone place at item (Some box) = Some (moving_box margin zone (taken_from place box) place item at)

abbrev pub turned_on : ℤ → ZoneLine → ℕ → (ℕ → ℤ) → Item → Option ZoneBox → Option ZoneBox
turned_on margin zone place at item None = Some (standing_box margin zone place item.line at)
turned_on margin zone place at item (Some box) = Some box

abbrev pub opened_after : ℤ → ZoneLine → ℕ → (ℕ → ℤ) → Item → Option ZoneBox → ZoneEffect → Option ZoneBox
opened_after margin zone place at item opened Nothing = opened
opened_after margin zone place at item opened (Turns true) = turned_on margin zone place at item opened
opened_after margin zone place at item opened (Turns false) = None
opened_after margin zone place at item opened Moves = moved_on margin zone place at item opened

-- the boxes from a place on
abbrev pub sweep : ℤ → ZoneLine → ℕ → Option ZoneBox → (ℕ → ℤ) → List Item → List ZoneBox
sweep margin zone place opened at [] = option_to_list (box_until place opened)
sweep margin zone place opened at (item ∷ items) =
    option_to_list (ended_before place opened (seen zone item))
    ++ sweep margin zone (suc place) (opened_after margin zone (suc place) at item opened (seen zone item)) (stand_after item at) items

-- what is open as a span begins
abbrev pub opened_at_first : ℤ → ZoneLine → Bool → ℕ → (ℕ → ℤ) → Option ZoneBox
opened_at_first margin zone on line at = if on then Some (standing_box margin zone 0 line at) else None
