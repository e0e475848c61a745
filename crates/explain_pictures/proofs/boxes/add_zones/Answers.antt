use Rattle.std.specs.List.{flat_map, range_with_len}
use Rattle.explain_pictures.specs.Boxes.{tiles_of_zone}
use Rattle.explain_pictures.specs.Focus.{view_of}
use Rattle.explain_pictures.proofs.KeptLaws.{alike_on, parts_more}
use Rattle.explain_pictures.proofs.boxes.add_zones.Goals as goal

pub loop-place-preserved : goal.loop-place-preserved
loop-place-preserved c =
    rw (parts_more (tiles_of_zone (view_of c.args.scene.now)) c.loop-place.place)
    (alike_on c.args.limit c.args.tiles.now.items (flat_map (tiles_of_zone (view_of c.args.scene.now)) (range_with_len 0 c.loop-place.place))
    (tiles_of_zone (view_of c.args.scene.now) c.loop-place.place) c.loop-place.tiles.items c.add_zone.new.tiles.items c.loop-place.invariant c.in_ok-add_zone.ensures)
