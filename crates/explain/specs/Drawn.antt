-- Meaning. What is drawn of a judged job.
use Rattle.std.specs.Prelude.{◌≡◌, ◌++◌, ◌||◌, ℕ, List, length, nat_lt, take, Option}
use Rattle.explain.specs.Explained.{zones_told}
use Rattle.explain.specs.Focused.{IsFocus}
use Rattle.explain_texts.specs.Headlines.{first_line}
use Rattle.job_types.specs.Job.{JobView}
use Rattle.order_clocks.specs.Clocked.{ClocksView}
use Rattle.order_clocks.specs.Tells.{is_before_in}
use Rattle.explain_views.specs.declared.shapes.Picture.{Picture}
use Rattle.zone_stretches.specs.Overlaps.{compared_pairs}
use Rattle.zone_stretches.specs.Stretches.{StretchesView}
use Rattle.explain_drawing.specs.Drawing.{drawing_text}
use Rattle.explain_pictures.specs.Boxes.{all_tiles}
use Rattle.explain_pictures.specs.Focus.{SceneView}
use Rattle.explain_pictures.specs.Moments.{channels_of, moments_from}
use Rattle.explain_pictures.specs.Named.{named_tiles}
use Rattle.explain_pictures.specs.Spans.{named_spans}
use Rattle.explain_pictures.specs.Tracks.{all_tracks}
use Rattle.explain_pictures.specs.declared.picture.TheConstants.{MOMENT_LIMIT, TILE_LIMIT}
use Rattle.sync_types.specs.Views.{RunView}
use Rattle.sync_types.specs.declared.verdicts.Verdict.{Verdict}
use Rattle.explain_places.specs.declared.place.Meeting.{Meeting}

-- what a drawing is made of, with the boxes that it looks at
abbrev pub scene_of : JobView → RunView → ClocksView → StretchesView → Option Meeting → SceneView
scene_of job run clocks stretches focus = record { job = job; run = run; stretches = stretches; before = is_before_in clocks.rows; focus = focus }

-- of a scene the boxes of all zones, with the two of the first meeting over them and their times, the ways and the moments of the run
pub record IsPictureOf (scene : SceneView) (first : Option Meeting) (picture : Picture) : Type 0 where
  pub tiles : picture.tiles.items ≡ take TILE_LIMIT (all_tiles scene) ++ named_tiles scene.job scene.run first
  pub tracks : picture.tracks.items ≡ take TILE_LIMIT (all_tracks scene)
  pub moments : picture.moments.items ≡ take MOMENT_LIMIT (moments_from 0 scene.run.entries)
  pub spans : picture.spans.items ≡ named_spans first
  pub channels : picture.channels.items ≡ channels_of scene.job
  pub cut : picture.is_cut ≡ (nat_lt TILE_LIMIT (length (all_tiles scene)) || (nat_lt TILE_LIMIT (length (all_tracks scene)) || nat_lt MOMENT_LIMIT (length (moments_from 0 scene.run.entries))))

-- the drawing of this picture, with the first line of the text as its title; it looks at the boxes that the verdict names, or at the nearest
pub record IsDrawn (input : List ℕ) (job : JobView) (run : RunView) (clocks : ClocksView) (stretches : StretchesView) (first : Option Meeting) (verdict : Verdict) (text : List ℕ) : Type 0 where
  pub focus : Option Meeting
  pub focused : IsFocus job run (compared_pairs (is_before_in clocks.rows) job stretches) first verdict focus
  pub picture : Picture
  pub shown : IsPictureOf (scene_of job run clocks stretches focus) first picture
  pub told : text ≡ drawing_text input job (first_line verdict (zones_told job run clocks stretches)) verdict picture
