use Rattle.std.proofs.Common.{◌∙◌, List, [], Bool, get_or, slice_get, Some, sym, ap, arith}
use Rattle.job_types.specs.Zones.{zones_in_order}
use Rattle.zone_stretches.proofs.TimedLaws.{zone_at_place, no_zone, past_zones}
use Rattle.zone_stretches.proofs.TimeLaws.{list_at, past_lists, within_lists}
use Rattle.zone_stretches.specs.Stretches.{StretchView}
use Rattle.zone_stretches.specs.TimedZones.{TimedZoneView}
use Rattle.zone_stretches.specs.Times.{lists_in}
use Rattle.zone_stretches.proofs.timed_zones.TimedZones.at.Goals as goal

pub returns-in-None-clause-zone : goal.returns-in-None-clause-zone
returns-in-None-clause-zone c =
    sym (no_zone (zones_in_order c.self.inside.job.now) (lists_in c.self.inside.lists.now) c.self.inside.ascents 0 c.args.place (sym c.zone_at.ensures ∙ c.in-None.is))
    ∙ ap (λ (zones : List TimedZoneView). slice_get zones c.args.place) c.self.view_is

pub returns-in-Some-clause-zone : goal.returns-in-Some-clause-zone
returns-in-Some-clause-zone c =
    let lists : List (List StretchView) = lists_in c.self.inside.lists.now in
    ap (λ (stretches : List StretchView). Some (record { time = record { zone = c.in-Some.zone; stretches = stretches }; ascends = c.ascends_at-ascends.result }))
    (c.as_slice-stretches.ensures.value ∙ sym (list_at c.self.inside.lists.now c.args.place c.index-lists-place.result c.if-place-lists.true c.index-lists-place.is))
    ∙ ap (λ (ascends : Bool). Some (record { time = record { zone = c.in-Some.zone; stretches = get_or lists c.args.place [] }; ascends = ascends })) c.ascends_at-ascends.ensures
    ∙ sym (zone_at_place (zones_in_order c.self.inside.job.now) lists c.self.inside.ascents 0 c.args.place c.args.place c.in-Some.zone (omega arith)
    (within_lists c.self.inside.lists.now c.args.place c.if-place-lists.true) (sym c.zone_at.ensures ∙ c.in-Some.is))
    ∙ ap (λ (zones : List TimedZoneView). slice_get zones c.args.place) c.self.view_is

pub returns-else-place-lists-clause-zone : goal.returns-else-place-lists-clause-zone
returns-else-place-lists-clause-zone c =
    sym (past_zones (zones_in_order c.self.inside.job.now) (lists_in c.self.inside.lists.now) c.self.inside.ascents 0 c.args.place (past_lists c.self.inside.lists.now c.args.place c.if-place-lists.false))
    ∙ ap (λ (zones : List TimedZoneView). slice_get zones c.args.place) c.self.view_is
