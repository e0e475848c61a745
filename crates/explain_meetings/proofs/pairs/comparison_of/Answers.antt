use Rattle.std.proofs.Common.{◌≡◌, ◌∙◌, List, [], ◌++◌, length, min, max, sym, ap, subst}
use Rattle.std.proofs.lemmas.Bool.{eqb-true}
use Rattle.job_types.specs.Job.{JobView}
use Rattle.explain_meetings.proofs.NearestLaws.{nearest_none}
use Rattle.explain_meetings.proofs.PairLaws.{none_found, one_found, some_there, two_are, two_groups}
use Rattle.explain_meetings.specs.Groups.{capped}
use Rattle.explain_meetings.specs.NearSteps.{AreNearestSoFar}
use Rattle.explain_meetings.specs.Nearest.{AreNearest}
use Rattle.explain_meetings.specs.ZonePairs.{pairs_of_two}
use Rattle.explain_meetings.specs.declared.nearest.Near.{Near}
use Rattle.order_clocks.specs.Tells.{is_before_in}
use Rattle.sync_types.specs.Views.{RunView}
use Rattle.zone_stretches.specs.InCovers.{ArePairsInCover}
use Rattle.zone_stretches.specs.Overlaps.{Order, Pair}
use Rattle.zone_stretches.specs.StretchPairs.{boxes_with}
use Rattle.zone_stretches.specs.TimedZones.{TimedZoneView}
use Rattle.explain_meetings.proofs.pairs.comparison_of.Goals as goal

-- the rows that are found, from none, are the nearest of the two zones
nearest_are : (before : Order) (job : JobView) (run : RunView) (zones : TimedZoneView × TimedZoneView) (none near nears : List Near) → none ≡ [] → nears ≡ near → ArePairsInCover job run (boxes_with before zones)
    → ((seen : List Pair) → AreNearestSoFar job run seen none → AreNearestSoFar job run (seen ++ boxes_with before zones) near) → AreNearest job run (pairs_of_two before zones.0.time zones.1.time) nears
nearest_are before job run zones none near nears is nears_is covers are =
    subst (λ (ps : List Pair). AreNearest job run ps nears) (two_are before zones)
    (subst (λ (rows : List Near). AreNearest job run (boxes_with before zones) rows) (sym nears_is)
    (are [] (subst (λ (rows : List Near). AreNearestSoFar job run [] rows) (sym is) (λ covers. nearest_none job run)) covers))

pub returns-then-is_empty : goal.returns-then-is_empty
returns-then-is_empty c =
    none_found c.args.scene.now.job.now c.args.scene.now.run.now (pairs_of_two (is_before_in c.args.scene.now.clocks.now.rows) c.args.left.now.time c.args.right.now.time) c.as_slice-nears.result.now
    (nearest_are (is_before_in c.args.scene.now.clocks.now.rows) c.args.scene.now.job.now c.args.scene.now.run.now (c.args.left.now, c.args.right.now) c.new-near.result.items _ c.as_slice-nears.result.now c.new-near.ensures.items
    c.as_slice-nears.ensures.value c.requires.ready.covers c.in_ok-look_of_zones.ensures)
    (eqb-true (length c.as_slice-nears.result.now) 0 (sym c.is_empty.ensures ∙ c.if-is_empty.true))

pub returns : goal.returns
returns c =
    one_found c.args.scene.now.job.now c.args.scene.now.run.now (pairs_of_two (is_before_in c.args.scene.now.clocks.now.rows) c.args.left.now.time c.args.right.now.time) c.as_slice-nears.result.now
    (min c.args.left.now.time.zone.group c.args.right.now.time.zone.group, max c.args.left.now.time.zone.group c.args.right.now.time.zone.group) c.index-nears-0.result c.found_with.result.count c.found_with.result.reach
    (two_groups (is_before_in c.args.scene.now.clocks.now.rows) c.args.left.now.time c.args.right.now.time)
    (nearest_are (is_before_in c.args.scene.now.clocks.now.rows) c.args.scene.now.job.now c.args.scene.now.run.now (c.args.left.now, c.args.right.now) c.new-near.result.items _ c.as_slice-nears.result.now c.new-near.ensures.items
    c.as_slice-nears.ensures.value c.requires.ready.covers c.in_ok-look_of_zones.ensures)
    (some_there (length c.as_slice-nears.result.now) (sym c.is_empty.ensures ∙ c.if-is_empty.false))
    (c.found_with.ensures.reach ∙ ap (λ (n : Near). n.reach) c.index-nears-0.is)
    (c.found_with.ensures.count ∙ c.count_of_zones-count.ensures
    ∙ ap (λ (ps : List Pair). capped (length ps)) (two_are (is_before_in c.args.scene.now.clocks.now.rows) (c.args.left.now, c.args.right.now)))
