use Rattle.std.proofs.Common.{◌∙◌, ◌++◌, List, ap, map}
use Rattle.std.proofs.lemmas.Result.{on_ok_weaker}
use Rattle.protection_zones.specs.Beginnings.{all_items}
use Rattle.zone_stretches.specs.Spans.{Span}
use Rattle.zone_stretches.specs.Stretches.{spans_in, stretch_of_span}
use Rattle.protection_zones.specs.Terms.{shown_term}
use Rattle.protection_zones.proofs.SpanLaws.{own_spans}
use Rattle.protection_zones.proofs.zone_time.Scene.write_term.Goals as goal

pub returns-in-Some : goal.returns-in-Some
returns-in-Some c = λ occurrences are.
    on_ok_weaker c.write_held.result (λ items. items
    ∙ rw c.in-Some.is (ap (λ (spans : List Span). c.args.stretches.now.items ++ map (stretch_of_span c.args.self.now.job.now c.args.self.now.zone.now c.in-Some.channel) (spans_in spans (shown_term c.args.term.now)))
    (own_spans c.args.self.now.job.now (all_items c.args.self.now.items.now) occurrences c.args.outsets.now c.own_outsets.result.now c.in-Some.channel are c.own_outsets.ensures.from c.own_outsets.ensures.below c.own_outsets.ensures.own))) c.write_held.ensures
