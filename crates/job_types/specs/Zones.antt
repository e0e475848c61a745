-- Meaning. The zones of a job by their numbers, and the axes that carry a zone.
use Rattle.std.specs.Prelude.{ℕ, ◌==◌, Bool, false, List, find, map, Option, Some, None}
use Rattle.std.specs.List.{filter_map, list_any, range_with_len}
use Rattle.job_types.specs.declared.job.ZoneLine.{ZoneLine}
use Rattle.job_types.specs.Job.{JobView}
use Rattle.axis_sets.specs.declared.limits.TheConstants.{AXIS_LIMIT, ZONE_LIMIT}

-- the ZONE line of a zone
abbrev pub zone_line : JobView → ℕ → Option ZoneLine
zone_line job zone = find (λ line. line.zone == zone) job.zones

-- the zones in ascending order of their numbers
unfoldable pub zones_in_order : JobView → List ZoneLine
zones_in_order job = filter_map (λ number. find (λ zone. zone.zone == number) job.zones) (range_with_len 1 ZONE_LIMIT)

-- the axis carries a direction
abbrev pub is_carrier : ℕ → Option (ℕ × Bool) → Bool
is_carrier axis None = false
is_carrier axis (Some carrier) = carrier.0 == axis

-- the zone has this axis: one of its directions is carried by it
unfoldable pub has_axis : ZoneLine → ℕ → Bool
has_axis zone axis = list_any (λ side. is_carrier axis side.carrier) zone.sides

-- the axes that carry a zone
unfoldable pub carriers : ZoneLine → List Bool
carriers zone = map (has_axis zone) (range_with_len 0 AXIS_LIMIT)
