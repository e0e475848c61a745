-- The zone that is looked for, among those of the numbers to come.
use Rattle.std.proofs.Common.{◌≡◌, ◌==◌, ◌+◌, ◌-◌, find, slice_get}
use Rattle.std.specs.List.{filter_map, range_with_len}
use Rattle.axis_sets.specs.declared.limits.TheConstants.{ZONE_LIMIT}
use Rattle.zone_stretches.proofs.zones.zone_at.Given as goal

abbrev pub invariant-loop-index : goal.invariant-loop-index
invariant-loop-index l =
    slice_get (filter_map (λ number. find (λ zone. zone.zone == number) l.job.zones) (range_with_len (l.index + 1) (ZONE_LIMIT - l.index))) l.left
    ≡ slice_get (filter_map (λ number. find (λ zone. zone.zone == number) l.job.zones) (range_with_len 1 ZONE_LIMIT)) l.place
