-- What is drawn is the picture of the run.
use Rattle.std.proofs.Common.{◌≡◌, ◌∙◌, ℕ, List, length, ◌++◌, ap, take}
use Rattle.std.specs.Prelude.{◌||◌, nat_lt, Option}
use Rattle.explain.specs.Drawn.{IsPictureOf}
use Rattle.explain_views.specs.declared.shapes.Picture.{Picture}
use Rattle.explain_pictures.specs.Boxes.{all_tiles}
use Rattle.explain_pictures.specs.Focus.{SceneView}
use Rattle.explain_pictures.specs.Moments.{channels_of, moments_from}
use Rattle.explain_pictures.specs.Named.{named_tiles}
use Rattle.explain_pictures.specs.Spans.{named_spans}
use Rattle.explain_pictures.specs.Tracks.{all_tracks}
use Rattle.explain_pictures.specs.declared.picture.TheConstants.{MOMENT_LIMIT, TILE_LIMIT}
use Rattle.explain_places.specs.declared.place.Meeting.{Meeting}

-- the same first meeting, said in another way
pub picture_of_first : (scene : SceneView) (one first : Option Meeting) (picture : Picture)
    → one ≡ first
    → picture.tiles.items ≡ take TILE_LIMIT (all_tiles scene) ++ named_tiles scene.job scene.run one
    → picture.tracks.items ≡ take TILE_LIMIT (all_tracks scene)
    → picture.moments.items ≡ take MOMENT_LIMIT (moments_from 0 scene.run.entries)
    → picture.spans.items ≡ named_spans one
    → picture.channels.items ≡ channels_of scene.job
    → picture.is_cut ≡ (nat_lt TILE_LIMIT (length (all_tiles scene)) || (nat_lt TILE_LIMIT (length (all_tracks scene)) || nat_lt MOMENT_LIMIT (length (moments_from 0 scene.run.entries))))
    → IsPictureOf scene first picture
picture_of_first scene one first picture same tiles tracks moments spans channels cut = record {
  tiles = tiles ∙ ap (λ (o : Option Meeting). take TILE_LIMIT (all_tiles scene) ++ named_tiles scene.job scene.run o) same;
  tracks = tracks;
  moments = moments;
  spans = spans ∙ ap named_spans same;
  channels = channels;
  cut = cut;
}
