-- Steps. The first two boxes that meet, zone by zone.
use Rattle.std.specs.Prelude.{ℕ, ◌+◌, ◌==◌, ◌&&◌, ◌||◌, not, Bool, if◌then◌else◌, List, [], ◌∷◌, length, slice_get, slice_index_or, Option, None, Some, option_and_then}
use Rattle.std.specs.List.{list_any}
use Rattle.std.specs.Option.{option_or}
use Rattle.clash_check.specs.FirstAnswer.{first_some}
use Rattle.clash_check.specs.Verdicts.{name_of}
use Rattle.job_types.specs.Zones.{zones_in_order}
use Rattle.job_types.specs.declared.job.ZoneLine.{ZoneLine}
use Rattle.swept_boxes.specs.Boxes.{boxes_meet}
use Rattle.swept_boxes.specs.declared.Box3.{Box3}
use Rattle.sync_types.specs.declared.verdicts.PlaceName.{PlaceName}
use Rattle.sync_types.specs.declared.verdicts.Verdict.{Verdict}
use Rattle.sync_types.specs.declared.verdicts.Verdict.TheVariants as verdicts
use Rattle.zone_stretches.specs.Cases.{Case, place_of}
use Rattle.zone_stretches.specs.Overlaps.{BoxPlace, ZoneTime, may_overlap, share_channel, share_place}
use Rattle.zone_stretches.specs.Pieces.{piece_boxes}
use Rattle.zone_stretches.specs.Stretches.{StretchView}
use Rattle.zone_stretches.specs.Times.{times_from}
use Rattle.zone_stretches.specs.declared.stretches.ZoneBox.{ZoneBox}

abbrev pub Names : Type 0
Names = PlaceName × PlaceName

-- boxes meet boxes in a cover: the cover first
abbrev pub pieces_touch : List Box3 → Box3 → List Box3 → Bool
pieces_touch pieces other others = list_any (λ piece. boxes_meet piece other) pieces && list_any (λ piece. list_any (boxes_meet piece) others) pieces

-- boxes in a cover meet boxes in another: the covers first
abbrev pub touches : Box3 → List Box3 → Box3 → List Box3 → Bool
touches cover pieces other others = boxes_meet cover other && pieces_touch pieces other others

-- two boxes are compared, where their stretches share a channel or not
abbrev pub compared : Bool → ZoneBox → ZoneBox → Bool
compared shared own later = not shared || share_place own later

-- the names of two boxes, where they are compared and meet
unfoldable pub names_where_met : Case → Bool → BoxPlace → BoxPlace → Option Names
names_where_met case shared left right =
    if compared shared left.box right.box && touches left.box.cover (piece_boxes case.job case.run left) right.box.cover (piece_boxes case.job case.run right)
    then Some (name_of left, name_of right) else None

-- the names of a box and of the first of some boxes of a stretch that it meets
unfoldable pub first_touched_among : Case → Bool → BoxPlace → ZoneLine → StretchView → List ZoneBox → Option Names
first_touched_among case shared left other right boxes =
    first_some (λ later. names_where_met case shared left (place_of other right later)) boxes

-- of all its boxes
abbrev pub first_touched : Case → Bool → BoxPlace → ZoneLine → StretchView → Option Names
first_touched case shared left other right = first_touched_among case shared left other right right.boxes

-- the names of the first two boxes of two stretches that meet; one with no boxes is looked at once
unfoldable pub first_in_stretches : Case → ZoneLine → StretchView → ZoneLine → StretchView → Option Names
first_in_stretches case zone left other right =
    if length right.boxes == 0 then None
    else (if may_overlap case.before left right
    then first_some (λ own. first_touched case (share_channel left.name.channel right.name.channel) (place_of zone left own) other right) left.boxes
    else None)

unfoldable pub first_against : Case → ZoneLine → ZoneTime → StretchView → Option Names
first_against case zone two left = if length left.boxes == 0 then None else first_some (first_in_stretches case zone left two.zone) two.stretches

-- the names of the first two boxes of two zones that meet
unfoldable pub first_of_zones : Case → ZoneTime → ZoneTime → Option Names
first_of_zones case one two = if one.zone.group == two.zone.group then None else first_some (first_against case one.zone two) one.stretches

-- of each zone with each later one
abbrev pub first_in_times : Case → List ZoneTime → Option Names
first_in_times case [] = None
first_in_times case (one ∷ others) = option_or (first_some (first_of_zones case one) others) (first_in_times case others)

-- of a zone with that of this place
abbrev pub first_with_place : Case → ZoneTime → List (List StretchView) → ℕ → Option Names
first_with_place case one lists place =
    option_and_then (λ zone. first_of_zones case one (record { zone = zone; stretches = slice_index_or lists place [] })) (slice_get (zones_in_order case.job) place)

-- of the zone of this place with each later one
abbrev pub first_from_place : Case → List (List StretchView) → ℕ → Option Names
first_from_place case lists place =
    option_and_then (λ zone. first_some (first_of_zones case (record { zone = zone; stretches = slice_index_or lists place [] })) (times_from case.job lists (place + 1)))
    (slice_get (zones_in_order case.job) place)

-- NO by the names of two boxes, or YES
abbrev pub verdict_by_names : Option Names → Verdict
verdict_by_names None = verdicts.Yes
verdict_by_names (Some names) = verdicts.No names.0 names.1
