use Rattle.std.specs.List.{flat_map, range_with_len}
use Rattle.explain_pictures.specs.Tracks.{tracks_of_zone}
use Rattle.explain_pictures.specs.Focus.{view_of}
use Rattle.explain_pictures.proofs.KeptLaws.{alike_on, parts_more}
use Rattle.explain_pictures.proofs.tracks.add_zones.Goals as goal

pub loop-place-preserved : goal.loop-place-preserved
loop-place-preserved c =
    rw (parts_more (tracks_of_zone (view_of c.args.scene.now)) c.loop-place.place)
    (alike_on c.args.limit c.args.tracks.now.items (flat_map (tracks_of_zone (view_of c.args.scene.now)) (range_with_len 0 c.loop-place.place))
    (tracks_of_zone (view_of c.args.scene.now) c.loop-place.place) c.loop-place.tracks.items c.add_zone.new.tracks.items c.loop-place.invariant c.in_ok-add_zone.ensures)
