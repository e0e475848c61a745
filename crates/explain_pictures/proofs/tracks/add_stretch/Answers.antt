use Rattle.explain_pictures.specs.Tracks.{tracks_of_box}
use Rattle.explain_pictures.proofs.KeptLaws.{part_on}
use Rattle.explain_pictures.proofs.tracks.add_stretch.Goals as goal

pub loop-own-preserved : goal.loop-own-preserved
loop-own-preserved c =
    part_on c.args.limit (tracks_of_box c.args.scene.now.job.now c.args.scene.now.run.now c.is_apart-pale.result c.args.zone.now c.args.stretch.now) c.deref-own-items.result.now c.loop-own.own-index _ c.args.tracks.now.items
    c.loop-own.tracks.items c.add_box.new.tracks.items c.loop-own-test.true c.loop-own.invariant c.in_ok-add_box.ensures
