use Rattle.std.proofs.Common.{◌≡◌, ◌++◌, map}
use Rattle.protection_zones.specs.Beginnings.{all_items, shown_outset, spans_along}
use Rattle.zone_stretches.specs.Stretches.{spans_until, stretch_of_span}
use Rattle.protection_zones.proofs.SpanLaws.{spans_left}
use Rattle.protection_zones.proofs.zone_time.Scene.write_held.Given as goal

abbrev pub invariant-loop-place : goal.invariant-loop-place
invariant-loop-place l =
    l.stretches.items ++ map (stretch_of_span l.self.job.now l.self.zone.now l.holder.channel) (spans_until l.term.last (spans_left (spans_along (all_items l.self.items.now) (map shown_outset l.holder.outsets.now)) l.place l.end))
    ≡ l.initial.stretches.items ++ map (stretch_of_span l.self.job.now l.self.zone.now l.holder.channel) (spans_until l.term.last (spans_left (spans_along (all_items l.self.items.now) (map shown_outset l.holder.outsets.now)) l.term.from l.end))
