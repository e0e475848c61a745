use Rattle.std.proofs.Common.{◌≡◌, take, drop, map, ◌++◌}
use Rattle.coord_core.specs.Tables.{zone_after_step}
use Rattle.coord_core.proofs.zones.note_on_each.Given as goal

abbrev pub invariant-loop-zone : goal.invariant-loop-zone
invariant-loop-zone l = l.zones ≡ map (zone_after_step l.channel l.on) (take l.zone-index l.initial.zones) ++ drop l.zone-index l.initial.zones
