use Rattle.std.proofs.Common.{◌∙◌, List, [], All, sym, subst}
use Rattle.std.proofs.lemmas.List.Elements.{All-tail}
use Rattle.explain_meetings.proofs.NearestLaws.{nearest_none}
use Rattle.explain_meetings.proofs.SeenLaws.{seen_start, seen_next, seen_end}
use Rattle.explain_meetings.specs.NearSteps.{AreNearestSoFar}
use Rattle.explain_meetings.specs.declared.nearest.Near.{Near}
use Rattle.order_clocks.specs.Tells.{is_before_in}
use Rattle.zone_stretches.specs.Overlaps.{Order}
use Rattle.zone_stretches.specs.StretchPairs.{boxes_with}
use Rattle.zone_stretches.specs.TimedZones.{AreTimed, TimedZoneView, each_two}
use Rattle.explain_meetings.proofs.nearest.nearest_in.Goals as goal

pub loop-pair-init : goal.loop-pair-init
loop-pair-init c =
    let before : Order = is_before_in c.args.scene.now.clocks.now.rows in (
      subst (All (AreTimed before)) (sym (c.into_iter-pair-iterator.ensures.into_iter_gives ∙ c.pairs-pair-items.ensures)) c.requires.timed,
      seen_start (boxes_with before) (λ pairs. AreNearestSoFar c.args.scene.now.job.now c.args.scene.now.run.now pairs c.new-near.result.items) _ (each_two c.args.zones.now) (c.into_iter-pair-iterator.ensures.into_iter_gives ∙ c.pairs-pair-items.ensures)
          (subst (λ (rows : List Near). AreNearestSoFar c.args.scene.now.job.now c.args.scene.now.run.now [] rows) (sym c.new-near.ensures.items)
          (λ covers. nearest_none c.args.scene.now.job.now c.args.scene.now.run.now)),
    )

pub loop-pair-preserved : goal.loop-pair-preserved
loop-pair-preserved c =
    let before : Order = is_before_in c.args.scene.now.clocks.now.rows in (
      All-tail (AreTimed before) c.in-Some.pair c.next.new.self (subst (λ (pairs : List (TimedZoneView × TimedZoneView)). All (AreTimed before) pairs) c.in-Some.ensures.steps c.loop-pair.invariant.0),
      seen_next (boxes_with before) (λ pairs. AreNearestSoFar c.args.scene.now.job.now c.args.scene.now.run.now pairs c.loop-pair.near.items)
          (λ pairs. AreNearestSoFar c.args.scene.now.job.now c.args.scene.now.run.now pairs c.look_of_zones.new.rows.items) _ c.next.new.self (each_two c.args.zones.now) c.in-Some.pair c.in-Some.ensures.steps
          (λ pairs so_far. c.in_ok-look_of_zones.ensures pairs so_far) c.loop-pair.invariant.1,
    )

pub returns : goal.returns
returns c =
    seen_end (boxes_with (is_before_in c.args.scene.now.clocks.now.rows)) (λ pairs. AreNearestSoFar c.args.scene.now.job.now c.args.scene.now.run.now pairs c.loop-pair.near.items) _ (each_two c.args.zones.now)
    c.in-None.ensures.steps.0 c.loop-pair.invariant.1
