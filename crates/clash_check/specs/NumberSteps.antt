-- Steps. How many boxes of each two zones are compared, pair by pair of zones.
use Rattle.std.specs.Prelude.{List}
use Rattle.clash_check.specs.Counts.{capped}
use Rattle.clash_check.specs.PairCounts.{count_of_zones}
use Rattle.clash_check.specs.PairNumbers.{some_number}
use Rattle.clash_check.specs.declared.numbers.PairNumber.{PairNumber}
use Rattle.zone_stretches.specs.Overlaps.{Order, ZoneTime}
use Rattle.zone_stretches.specs.TimedZones.{TimedZoneView}

-- how many of two zones
unfoldable pub number_with : Order → ZoneTime → ZoneTime → PairNumber
number_with before one two = record { zones = (one.zone.zone, two.zone.zone); count = capped (count_of_zones before one two) }

-- the row of a pair of zones, if there is one
abbrev pub row_with : Order → TimedZoneView × TimedZoneView → List PairNumber
row_with before pair = some_number (number_with before pair.0.time pair.1.time)
