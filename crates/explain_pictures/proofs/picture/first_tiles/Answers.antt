use Rattle.explain_pictures.specs.Boxes.{all_tiles}
use Rattle.explain_pictures.specs.declared.picture.TheConstants.{TILE_LIMIT}
use Rattle.explain_pictures.specs.Focus.{view_of}
use Rattle.explain_pictures.proofs.KeptLaws.{shortened_alike}
use Rattle.explain_pictures.proofs.picture.first_tiles.Goals as goal

pub returns : goal.returns
returns c =
    shortened_alike TILE_LIMIT c.add_zones.new.tiles.items (all_tiles (view_of c.args.scene.now)) c.shortened-is_cut.new.list.items c.shortened-is_cut.result
    (rw c.new-tiles.ensures.items at c.in_ok-add_zones.ensures) c.shortened-is_cut.ensures
