use Rattle.explain_pictures.specs.Tracks.{all_tracks}
use Rattle.explain_pictures.specs.declared.picture.TheConstants.{TILE_LIMIT}
use Rattle.explain_pictures.specs.Focus.{view_of}
use Rattle.explain_pictures.proofs.KeptLaws.{shortened_alike}
use Rattle.explain_pictures.proofs.picture.first_tracks.Goals as goal

pub returns : goal.returns
returns c =
    shortened_alike TILE_LIMIT c.add_zones.new.tracks.items (all_tracks (view_of c.args.scene.now)) c.shortened-is_cut.new.list.items c.shortened-is_cut.result
    (rw c.new-tracks.ensures.items at c.in_ok-add_zones.ensures) c.shortened-is_cut.ensures
