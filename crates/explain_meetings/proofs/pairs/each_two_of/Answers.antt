use Rattle.std.proofs.Common.{List, All, subst}
use Rattle.std.proofs.lemmas.List.Elements.{All-tail}
use Rattle.explain_meetings.proofs.PairLaws.{pair_more}
use Rattle.explain_meetings.specs.PairSteps.{AreReady}
use Rattle.order_clocks.specs.Tells.{is_before_in}
use Rattle.zone_stretches.specs.Overlaps.{Order}
use Rattle.zone_stretches.specs.TimedZones.{TimedZoneView}
use Rattle.explain_meetings.proofs.pairs.each_two_of.Goals as goal

pub loop-two-preserved : goal.loop-two-preserved
loop-two-preserved c =
    let before : Order = is_before_in c.args.scene.now.clocks.now.rows in (
      All-tail (AreReady before c.args.scene.now.job.now c.args.scene.now.run.now) c.in-Some.two c.next.new.self
          (subst (λ (zones : List (TimedZoneView × TimedZoneView)). All (AreReady before c.args.scene.now.job.now c.args.scene.now.run.now) zones) c.in-Some.ensures.steps c.loop-two.invariant.0),
      pair_more before c.args.scene.now.job.now c.args.scene.now.run.now _ c.next.new.self c.in-Some.two c.loop-two.pairs.items _ _ c.in_ok-pair.pair c.in-Some.ensures.steps c.in_ok-pair.ensures c.in_ok-add.ensures
          c.loop-two.invariant.1,
    )
