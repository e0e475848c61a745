-- Steps. How many pairs of boxes are compared, zone by zone.
use Rattle.std.specs.Prelude.{ℕ, ◌*◌, ◌==◌, if◌then◌else◌, List, length, sum_by}
use Rattle.std.specs.List.{count_by}
pub use Rattle.clash_check.specs.Counts.{capped}
use Rattle.zone_stretches.specs.Overlaps.{Order, ZoneTime, may_overlap, share_channel, share_place}
use Rattle.zone_stretches.specs.Stretches.{StretchView}
use Rattle.zone_stretches.specs.TimedZones.{TimedZoneView}
use Rattle.zone_stretches.specs.declared.stretches.ZoneBox.{ZoneBox}

-- the pairs of boxes with a place in common
unfoldable pub count_sharing : List ZoneBox → List ZoneBox → ℕ
count_sharing left right = sum_by (λ own. count_by (share_place own) right) left

-- the pairs of two stretches that may overlap
unfoldable pub count_in_boxes : StretchView → StretchView → ℕ
count_in_boxes left right =
    if share_channel left.name.channel right.name.channel then count_sharing left.boxes right.boxes else length left.boxes * length right.boxes

-- the pairs of two stretches; one with no boxes is looked at once
unfoldable pub count_in_stretches : Order → StretchView → StretchView → ℕ
count_in_stretches before left right = if length right.boxes == 0 then 0 else (if may_overlap before left right then count_in_boxes left right else 0)

-- the pairs of a stretch with the stretches of the other zone
unfoldable pub count_against : Order → List StretchView → StretchView → ℕ
count_against before others left = if length left.boxes == 0 then 0 else sum_by (count_in_stretches before left) others

-- the pairs of two zones
unfoldable pub count_of_zones : Order → ZoneTime → ZoneTime → ℕ
count_of_zones before one two = if one.zone.group == two.zone.group then 0 else sum_by (count_against before two.stretches) one.stretches

-- the pairs of boxes of a pair of zones
abbrev pub count_with : Order → TimedZoneView × TimedZoneView → ℕ
count_with before pair = count_of_zones before pair.0.time pair.1.time
