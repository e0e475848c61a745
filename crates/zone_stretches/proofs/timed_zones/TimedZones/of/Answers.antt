use Rattle.std.proofs.Common.{◌∙◌, List, ap}
use Rattle.job_types.specs.Zones.{zones_in_order}
use Rattle.order_clocks.specs.Tells.{is_before_in}
use Rattle.zone_stretches.proofs.TimedLaws.{all_marked, times_are, zones_timed}
use Rattle.zone_stretches.specs.Overlaps.{zone_times}
use Rattle.zone_stretches.specs.Stretches.{StretchView}
use Rattle.zone_stretches.specs.TimedZones.{timed_from}
use Rattle.zone_stretches.specs.Times.{lists_in, times_in}
use Rattle.zone_stretches.proofs.timed_zones.TimedZones.of.Goals as goal

pub returns-clause-times : goal.returns-clause-times
unfolding zone_times
returns-clause-times c =
    times_are (zones_in_order c.args.job.now) (lists_in c.lists_of-lists.result.now) c.ascents_of.result 0
    ∙ ap (λ (lists : List (List StretchView)). times_in (zones_in_order c.args.job.now) lists) c.lists_of-lists.ensures

pub returns-clause-timed : goal.returns-clause-timed
returns-clause-timed c =
    zones_timed c.args.job.now c.requires.0 c.args.stretches.now c.args.clocks.now
    (timed_from (zones_in_order c.args.job.now) (lists_in c.lists_of-lists.result.now) c.ascents_of.result 0) c.requires.1 (returns-clause-times c)
    (all_marked (is_before_in c.args.clocks.now.rows) (zones_in_order c.args.job.now) (lists_in c.lists_of-lists.result.now) c.ascents_of.result c.ascents_of.ensures)
