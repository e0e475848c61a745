use Rattle.std.proofs.Common.{◌≡◌, List, map, take}
use Rattle.std.specs.List.{flat_map}
use Rattle.protection_zones.specs.Beginnings.{AreOutsets, all_items}
use Rattle.protection_zones.specs.Terms.{shown_term}
use Rattle.zone_stretches.specs.Occurrences.{OccurrenceView}
use Rattle.zone_stretches.specs.Spans.{spans_of}
use Rattle.zone_stretches.specs.Stretches.{stretches_in_tenure}
use Rattle.protection_zones.proofs.zone_time.Scene.stretches.Given as goal

abbrev pub invariant-loop-term : goal.invariant-loop-term
invariant-loop-term l = (occurrences : List OccurrenceView) → AreOutsets l.self.job.now occurrences l.outsets
    → l.stretches.items ≡ flat_map (stretches_in_tenure l.self.job.now l.self.zone.now (spans_of l.self.job.now (all_items l.self.items.now) occurrences)) (map shown_term (take l.term-index l.terms))
