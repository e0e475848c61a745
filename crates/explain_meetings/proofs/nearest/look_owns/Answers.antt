use Rattle.std.proofs.Common.{◌++◌, take, arith}
use Rattle.std.specs.List.{flat_map}
use Rattle.zone_stretches.specs.Cases.{place_of}
use Rattle.explain_meetings.specs.NearSteps.{pairs_by}
use Rattle.explain_meetings.specs.PassedOwns.{AreLookedAt}
use Rattle.explain_meetings.proofs.SeenLaws.{seen_at, seen_none, seen_all}
use Rattle.zone_stretches.specs.declared.stretches.ZoneBox.{ZoneBox}
use Rattle.explain_meetings.proofs.nearest.look_owns.Goals as goal

pub loop-own-init : goal.loop-own-init
loop-own-init c = record {
  near = λ seen so_far. seen_none (λ (own : ZoneBox). pairs_by c.args.two.now.right.now.zone.now c.args.two.now.right.now.stretch.now (place_of c.args.two.now.left.now.zone.now c.args.two.now.left.now.stretch.now own)) (λ ps. AreLookedAt c.args.two.now.scene.now.job.now c.args.two.now.scene.now.run.now c.args.two.now.left.now.zone.now c.args.two.now.right.now.zone.now c.args.two.now.right.now.stretch.now ps c.args.rows.now.items c.args.passed.now) seen so_far;
  kept = c.requires.kept;
}

pub loop-own-preserved : goal.loop-own-preserved
loop-own-preserved c = record {
  near = λ seen so_far.
      seen_at (λ (own : ZoneBox). pairs_by c.args.two.now.right.now.zone.now c.args.two.now.right.now.stretch.now (place_of c.args.two.now.left.now.zone.now c.args.two.now.left.now.stretch.now own)) (λ ps. AreLookedAt c.args.two.now.scene.now.job.now c.args.two.now.scene.now.run.now c.args.two.now.left.now.zone.now c.args.two.now.right.now.zone.now c.args.two.now.right.now.stretch.now ps c.look_by.new.rows.items c.look_by.new.passed) c.args.owns.now c.loop-own.own-index _ seen c.loop-own-test.true
      (c.in_ok-look_by.ensures.near (seen ++ flat_map (λ (own : ZoneBox). pairs_by c.args.two.now.right.now.zone.now c.args.two.now.right.now.stretch.now (place_of c.args.two.now.left.now.zone.now c.args.two.now.left.now.stretch.now own)) (take c.loop-own.own-index c.args.owns.now)) (c.loop-own.invariant.near seen so_far));
  kept = c.in_ok-look_by.ensures.kept;
}

pub returns-clause-near : goal.returns-clause-near
returns-clause-near c seen so_far = seen_all (λ (own : ZoneBox). pairs_by c.args.two.now.right.now.zone.now c.args.two.now.right.now.stretch.now (place_of c.args.two.now.left.now.zone.now c.args.two.now.left.now.stretch.now own)) (λ ps. AreLookedAt c.args.two.now.scene.now.job.now c.args.two.now.scene.now.run.now c.args.two.now.left.now.zone.now c.args.two.now.right.now.zone.now c.args.two.now.right.now.stretch.now ps c.loop-own.rows.items c.loop-own.passed) c.args.owns.now c.loop-own.own-index seen (omega arith) (c.loop-own.invariant.near seen so_far)
