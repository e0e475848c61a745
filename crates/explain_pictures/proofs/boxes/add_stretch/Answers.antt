use Rattle.explain_pictures.specs.Boxes.{tiles_of_box}
use Rattle.explain_pictures.proofs.KeptLaws.{part_on}
use Rattle.explain_pictures.proofs.boxes.add_stretch.Goals as goal

pub loop-own-preserved : goal.loop-own-preserved
loop-own-preserved c =
    part_on c.args.limit (tiles_of_box c.args.scene.now.job.now c.args.scene.now.run.now c.is_apart-pale.result c.args.zone.now c.args.stretch.now) c.deref-own-items.result.now c.loop-own.own-index _ c.args.tiles.now.items
    c.loop-own.tiles.items c.add_box.new.tiles.items c.loop-own-test.true c.loop-own.invariant c.in_ok-add_box.ensures
