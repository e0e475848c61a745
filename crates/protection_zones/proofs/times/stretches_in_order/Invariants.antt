use Rattle.std.proofs.Common.{◌≡◌, ◌==◌, List, map, find}
use Rattle.std.specs.List.{filter_map, range_with_len}
use Rattle.protection_zones.specs.Beginnings.{all_items}
use Rattle.protection_zones.specs.Logs.{IsLog}
use Rattle.zone_stretches.specs.Occurrences.{OccurrenceView}
use Rattle.zone_stretches.specs.Stretches.{stretches_of_zone}
use Rattle.protection_zones.proofs.times.stretches_in_order.Given as goal

abbrev pub invariant-loop-index : goal.invariant-loop-index
invariant-loop-index l = (os : List OccurrenceView) → IsLog l.job os l.log
    → map (λ s. s.items) l.zones.items ≡ map (stretches_of_zone l.job (all_items l.items) os) (filter_map (λ number. find (λ zone. zone.zone == number) l.job.zones) (range_with_len 1 l.index))
