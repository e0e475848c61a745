-- Steps. The boxes that meet, stretch by stretch.
use Rattle.std.specs.Prelude.{◌&&◌, Bool, if◌then◌else◌, List, [], ◌∷◌}
use Rattle.std.specs.List.{flat_map}
use Rattle.job_types.specs.declared.job.ZoneLine.{ZoneLine}
use Rattle.explain_meetings.specs.Meetings.{told_pair}
use Rattle.swept_boxes.specs.Boxes.{boxes_meet}
use Rattle.explain_places.specs.declared.place.Meeting.{Meeting}
use Rattle.zone_stretches.specs.Cases.{Case, place_of}
use Rattle.zone_stretches.specs.Overlaps.{BoxPlace, are_compared}
use Rattle.zone_stretches.specs.Pieces.{pair_meets}
use Rattle.zone_stretches.specs.StretchPairs.{StretchPairView, pairs_with}
use Rattle.zone_stretches.specs.Stretches.{StretchView}
use Rattle.zone_stretches.specs.TimedZones.{TimedZoneView}
use Rattle.zone_stretches.specs.declared.stretches.ZoneBox.{ZoneBox}

-- two boxes are compared, and their covers meet
abbrev pub may_meet : StretchView → ZoneBox → StretchView → ZoneBox → Bool
may_meet left own right later = are_compared left right own later && boxes_meet own.cover later.cover

-- two boxes, where they may meet and do
unfoldable pub met_one : Case → BoxPlace → ZoneLine → StretchView → ZoneBox → List Meeting
met_one case left other right later =
    if may_meet left.stretch left.box right later && pair_meets case.job case.run (left, place_of other right later)
    then told_pair (left, place_of other right later) ∷ [] else []

-- a box with those of a stretch
abbrev pub met_by : Case → ZoneLine → StretchView → BoxPlace → List Meeting
met_by case other right left = flat_map (met_one case left other right) right.boxes

-- the boxes of two stretches
abbrev pub met_in_boxes : Case → ZoneLine → StretchView → ZoneLine → StretchView → List Meeting
met_in_boxes case zone left other right = flat_map (λ own. met_by case other right (place_of zone left own)) left.boxes

-- those of a pair of stretches
abbrev pub met_of_pair : Case → StretchPairView → List Meeting
met_of_pair case pair = met_in_boxes case pair.left.zone pair.left.stretch pair.right.zone pair.right.stretch

-- the boxes of two zones
abbrev pub met_with : Case → TimedZoneView × TimedZoneView → List Meeting
met_with case zones = flat_map (met_of_pair case) (pairs_with case.before zones)
