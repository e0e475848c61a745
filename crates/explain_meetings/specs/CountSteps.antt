-- Steps. How many boxes of two stretches are compared.
use Rattle.std.specs.Prelude.{ℕ, ◌*◌, if◌then◌else◌, List, length, sum_by}
use Rattle.std.specs.List.{count_by}
use Rattle.zone_stretches.specs.Overlaps.{share_channel, share_place}
use Rattle.zone_stretches.specs.Stretches.{StretchView}
use Rattle.zone_stretches.specs.declared.stretches.ZoneBox.{ZoneBox}

-- the pairs of boxes with a place in common
unfoldable pub count_sharing : List ZoneBox → List ZoneBox → ℕ
count_sharing owns laters = sum_by (λ own. count_by (share_place own) laters) owns

-- the pairs of two stretches that may overlap
unfoldable pub count_in_boxes : StretchView → StretchView → ℕ
count_in_boxes left right =
    if share_channel left.name.channel right.name.channel then count_sharing left.boxes right.boxes else length left.boxes * length right.boxes
