-- Meaning. The boxes of all zones, by the pieces of their motions, each with the look of its holder.
use Rattle.std.specs.Prelude.{ℕ, Bool, false, List, [], map, flat_map, length, slice_get, slice_index_or, Option, None, Some}
use Rattle.std.specs.List.{range_with_len}
use Rattle.std.specs.Option.{is_some, option_map_or}
use Rattle.job_types.specs.Job.{JobView}
use Rattle.job_types.specs.Zones.{zones_in_order}
use Rattle.job_types.specs.declared.job.ZoneLine.{ZoneLine}
use Rattle.zone_stretches.specs.Pieces.{piece_boxes}
use Rattle.zone_stretches.specs.Stretches.{StretchView}
use Rattle.explain_pictures.specs.Focus.{SceneView, is_apart}
use Rattle.zone_stretches.specs.declared.stretches.ZoneBox.{ZoneBox}
use Rattle.explain_views.specs.declared.shapes.Look.{Look}
use Rattle.explain_views.specs.declared.shapes.Look.TheVariants.{Free, Held}
use Rattle.explain_views.specs.declared.shapes.Tile.{Tile}
use Rattle.swept_boxes.specs.declared.Box3.{Box3}
use Rattle.sync_types.specs.Views.{RunView}
use Rattle.sync_types.specs.declared.verdicts.PlaceName.{PlaceName}

-- the look of what a channel holds, or nobody
abbrev pub look_by : Option ℕ → Look
look_by None = Free
look_by (Some channel) = Held channel

abbrev pub look_of : PlaceName → Look
look_of name = look_by name.channel

-- a box of a stretch, pale or not: it has its own line, and the look of its holder
abbrev pub tile_of : Bool → StretchView → ZoneBox → Tile
tile_of pale stretch own = record {
  space = own.cover;
  look = look_of stretch.name;
  name = record stretch.name { line = own.line };
  moves = is_some own.motion;
  is_labelled = false;
  is_pale = pale;
}

-- a piece of it
abbrev pub in_piece : Tile → Box3 → Tile
in_piece tile piece = record tile { space = piece }

-- a box of a stretch of a zone by its pieces
abbrev pub tiles_of_box : JobView → RunView → Bool → ZoneLine → StretchView → ZoneBox → List Tile
tiles_of_box job run pale zone stretch own =
    map (in_piece (tile_of pale stretch own)) (piece_boxes job run (record { zone = zone; stretch = stretch; box = own }))

-- all boxes of a stretch, pale where it is apart in time from what is looked at
abbrev pub tiles_of_stretch : SceneView → ZoneLine → StretchView → List Tile
tiles_of_stretch scene zone stretch =
    flat_map (tiles_of_box scene.job scene.run (is_apart scene.before scene.focus stretch) zone stretch) stretch.boxes

-- all boxes of the zone of a place
unfoldable pub tiles_of_zone : SceneView → ℕ → List Tile
tiles_of_zone scene place =
    option_map_or (λ zone. flat_map (tiles_of_stretch scene zone) (slice_index_or scene.stretches.zones place [])) (slice_get (zones_in_order scene.job) place) []

-- all boxes of all zones, in the order of their numbers
unfoldable pub all_tiles : SceneView → List Tile
all_tiles scene = flat_map (tiles_of_zone scene) (range_with_len 0 (length scene.stretches.zones))
