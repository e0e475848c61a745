use Rattle.std.proofs.Common.{◌++◌, take, arith}
use Rattle.std.specs.List.{flat_map}
use Rattle.zone_stretches.specs.Cases.{place_of}
use Rattle.explain_meetings.specs.NearSteps.{AreNearestSoFar, pair_where}
use Rattle.explain_meetings.proofs.SeenLaws.{seen_at, seen_none, seen_all}
use Rattle.explain_meetings.proofs.nearest.look_each.Goals as goal

pub loop-place-init : goal.loop-place-init
loop-place-init c = record {
  near = λ seen so_far. seen_none (pair_where (place_of c.args.two.now.left.now.zone.now c.args.two.now.left.now.stretch.now c.args.own.now.whole.now) c.args.two.now.right.now.zone.now c.args.two.now.right.now.stretch.now) (λ ps. AreNearestSoFar c.args.two.now.scene.now.job.now c.args.two.now.scene.now.run.now ps c.args.rows.now.items) seen so_far;
  kept = c.requires.kept;
}

pub loop-place-preserved : goal.loop-place-preserved
loop-place-preserved c = record {
  near = λ seen so_far.
      seen_at (pair_where (place_of c.args.two.now.left.now.zone.now c.args.two.now.left.now.stretch.now c.args.own.now.whole.now) c.args.two.now.right.now.zone.now c.args.two.now.right.now.stretch.now) (λ ps. AreNearestSoFar c.args.two.now.scene.now.job.now c.args.two.now.scene.now.run.now ps c.look_at.new.rows.items) c.args.laters.now c.loop-place.place _ seen c.loop-place-test.true
      (c.in_ok-look_at.ensures.near (seen ++ flat_map (pair_where (place_of c.args.two.now.left.now.zone.now c.args.two.now.left.now.stretch.now c.args.own.now.whole.now) c.args.two.now.right.now.zone.now c.args.two.now.right.now.stretch.now) (take c.loop-place.place c.args.laters.now)) (c.loop-place.invariant.near seen so_far));
  kept = c.in_ok-look_at.ensures.kept;
}

pub returns-clause-near : goal.returns-clause-near
returns-clause-near c seen so_far = seen_all (pair_where (place_of c.args.two.now.left.now.zone.now c.args.two.now.left.now.stretch.now c.args.own.now.whole.now) c.args.two.now.right.now.zone.now c.args.two.now.right.now.stretch.now) (λ ps. AreNearestSoFar c.args.two.now.scene.now.job.now c.args.two.now.scene.now.run.now ps c.loop-place.rows.items) c.args.laters.now c.loop-place.place seen (omega arith) (c.loop-place.invariant.near seen so_far)
