use Rattle.std.proofs.Common.{◌≡◌, ℕ, ◌==◌, ◌&&◌, false, take, length}
use Rattle.axis_sets.specs.Sets.{has}
use Rattle.axis_sets.specs.declared.limits.TheConstants.{ZONE_PLACES}
use Rattle.std.specs.List.{list_any}
use Rattle.sync_types.specs.Boards.{is_this}
use Rattle.coord_core.proofs.zones.zones_on.Given as goal

abbrev pub invariant-loop-zone : goal.invariant-loop-zone
invariant-loop-zone l =
    ((z : ℕ) → has l.on z ≡ list_any (λ zone. (zone.zone == z) && (is_this zone.holder l.channel && zone.on)) (take l.zone-index l.zones))
    × (has l.on 0 ≡ false)
    × (length l.on ≡ ZONE_PLACES)
