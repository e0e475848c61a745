use Rattle.std.proofs.Common.{◌≡◌, ℕ, ◌==◌, ◌&&◌, take}
use Rattle.std.specs.List.{list_any}
use Rattle.axis_sets.specs.Sets.{has}
use Rattle.protection_zones.proofs.spans.zones_on.Given as goal

-- those of the first so many
abbrev pub invariant-loop-zone : goal.invariant-loop-zone
invariant-loop-zone l = (z : ℕ) → has l.on z ≡ list_any (λ zone. (zone.zone == z) && zone.on) (take l.zone-index l.zones)
