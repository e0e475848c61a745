-- Steps. The stretches of two zones that may overlap, one pair after another.
use Rattle.std.specs.Prelude.{ℕ, ◌==◌, if◌then◌else◌, List, [], ◌++◌, drop, filter, map, Option, None, Some}
use Rattle.std.specs.List.{flat_map}
use Rattle.job_types.specs.declared.job.ZoneLine.{ZoneLine}
use Rattle.zone_stretches.specs.Overlaps.{Order, Pair, ZoneTime, box_pairs, may_overlap}
use Rattle.zone_stretches.specs.Stretches.{StretchView}
use Rattle.zone_stretches.specs.TimedZones.{TimedZoneView}

-- a stretch of a zone
pub record ZoneStretchView : Type 0 where
  pub zone : ZoneLine
  pub stretch : StretchView

-- a stretch of a zone and one of another
pub record StretchPairView : Type 0 where
  pub left : ZoneStretchView
  pub right : ZoneStretchView

abbrev pub two_stretches : ZoneTime → ZoneTime → StretchView → StretchView → StretchPairView
two_stretches one two left right = record {
  left = record { zone = one.zone; stretch = left };
  right = record { zone = two.zone; stretch = right };
}

-- the compared boxes of two stretches that may overlap
abbrev pub boxes_of_pair : StretchPairView → List Pair
boxes_of_pair pair = box_pairs pair.left.zone pair.left.stretch pair.right.zone pair.right.stretch

-- a stretch with each of these of another zone that it may overlap
abbrev pub pairs_beside : Order → ZoneTime → ZoneTime → List StretchView → StretchView → List StretchPairView
pairs_beside before one two rights left = map (two_stretches one two left) (filter (may_overlap before left) rights)

-- each stretch from a place on with each of another zone that it may overlap
abbrev pub pairs_from : Order → ZoneTime → ZoneTime → ℕ → List StretchPairView
pairs_from before one two place = flat_map (pairs_beside before one two two.stretches) (drop place one.stretches)

-- a stretch, if there is one, with each of these that it may overlap, and then each from a place on
abbrev pub pairs_left : Order → ZoneTime → ZoneTime → Option StretchView → List StretchView → ℕ → List StretchPairView
pairs_left before one two None rights place = pairs_from before one two place
pairs_left before one two (Some left) rights place = pairs_beside before one two rights left ++ pairs_from before one two place

-- the stretches of two zones that may overlap: none of one group
unfoldable pub overlapping_stretches : Order → ZoneTime → ZoneTime → List StretchPairView
overlapping_stretches before one two = if one.zone.group == two.zone.group then [] else pairs_from before one two 0

-- those of a pair of zones
abbrev pub pairs_with : Order → TimedZoneView × TimedZoneView → List StretchPairView
pairs_with before zones = overlapping_stretches before zones.0.time zones.1.time

-- their compared boxes
abbrev pub boxes_with : Order → TimedZoneView × TimedZoneView → List Pair
boxes_with before zones = flat_map boxes_of_pair (pairs_with before zones)
