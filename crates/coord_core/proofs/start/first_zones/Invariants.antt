use Rattle.std.proofs.Common.{◌≡◌, ◌≤◌, take, map}
use Rattle.arrayvec.specs.ArrayVec.{array_vec_len}
use Rattle.coord_core.specs.Tables.{zone_at_start}
use Rattle.coord_core.proofs.start.first_zones.Given as goal

abbrev pub invariant-loop-zone : goal.invariant-loop-zone
invariant-loop-zone l =
    (array_vec_len l.zones ≤ l.zone-index) × (l.zones.items ≡ map zone_at_start (take l.zone-index l.lines))
