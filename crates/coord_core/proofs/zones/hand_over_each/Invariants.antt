use Rattle.std.proofs.Common.{◌≡◌, take, drop, map, ◌++◌}
use Rattle.coord_core.specs.Tables.{zone_handed}
use Rattle.coord_core.proofs.zones.hand_over_each.Given as goal

abbrev pub invariant-loop-zone : goal.invariant-loop-zone
invariant-loop-zone l = l.zones ≡ map (zone_handed l.axes l.holder) (take l.zone-index l.initial.zones) ++ drop l.zone-index l.initial.zones
