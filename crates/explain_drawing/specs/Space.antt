-- Meaning. What is drawn in a view of space: the boxes and the ways, each with what there is to know of it.
use Rattle.std.specs.Prelude.{ℕ, ◌==◌, List, [], ◌++◌, if◌then◌else◌, find, flat_map, Option, codes}
use Rattle.std.specs.Option.{option_map_or}
use Rattle.job_types.specs.Job.{JobView}
use Rattle.job_types.specs.declared.job.ZoneLine.{ZoneLine}
use Rattle.explain_views.specs.Marks.{place_text}
use Rattle.explain_views.specs.Ticks.{ticks_text}
use Rattle.explain_views.specs.Views.{axes_text, label_place, starts_text, tile_text, track_text}
use Rattle.explain_views.specs.declared.shapes.Picture.{Picture}
use Rattle.explain_views.specs.declared.shapes.Tile.{Tile}
use Rattle.explain_views.specs.declared.shapes.Track.{Track}
use Rattle.explain_views.specs.declared.views.View.{View}
use Rattle.explain_drawing.specs.Words.{tile_label, tile_words, track_words, zone_label}

-- words that a browser shows where the pointer is over an element
unfoldable pub hover_text : List ℕ → List ℕ
hover_text words = codes "<g><title>" ++ (words ++ codes "</title>\n")

-- a box with its words
unfoldable pub tile_part : List ℕ → JobView → View → Tile → List ℕ
tile_part input job view tile = hover_text (tile_words input job tile) ++ (tile_text view tile ++ codes "</g>\n")

-- a way with its words
unfoldable pub track_part : List ℕ → JobView → View → Track → List ℕ
track_part input job view track = hover_text (track_words input job track) ++ (track_text view track ++ codes "</g>\n")

-- the label of a box, if it is labelled
unfoldable pub label_text : List ℕ → View → Tile → List ℕ
label_text input view tile = codes "<text class=\"named\"" ++ (place_text (label_place view tile) ++ (tile_label input tile ++ codes "</text>\n"))

unfoldable pub label_part : List ℕ → View → Tile → List ℕ
label_part input view tile = if tile.is_labelled then label_text input view tile else []

-- the first box of a zone
abbrev pub first_tile_of : List Tile → ℕ → Option Tile
first_tile_of tiles zone = find (λ tile. tile.name.zone == zone) tiles

-- a zone with its comment in its first box
unfoldable pub zone_text : List ℕ → View → ZoneLine → Tile → List ℕ
zone_text input view zone tile = codes "<text class=\"zone\"" ++ (place_text (label_place view tile) ++ (zone_label input zone ++ codes "</text>\n"))

unfoldable pub zone_part : List ℕ → View → List Tile → ZoneLine → List ℕ
zone_part input view tiles zone = option_map_or (zone_text input view zone) (first_tile_of tiles zone.zone) []

-- all boxes, all ways, all zones, and all labels
unfoldable pub tiles_part : List ℕ → JobView → View → List Tile → List ℕ
tiles_part input job view tiles = flat_map (tile_part input job view) tiles

unfoldable pub tracks_part : List ℕ → JobView → View → List Track → List ℕ
tracks_part input job view tracks = flat_map (track_part input job view) tracks

unfoldable pub zones_part : List ℕ → JobView → View → List Tile → List ℕ
zones_part input job view tiles = flat_map (zone_part input view tiles) job.zones

unfoldable pub labels_part : List ℕ → View → List Tile → List ℕ
labels_part input view tiles = flat_map (label_part input view) tiles

-- the lines at whole millimetres, over them the boxes, and over these the lines on which the directions are 0
unfoldable pub ground_text : List ℕ → JobView → View → Picture → List ℕ
ground_text input job view picture = ticks_text view ++ (tiles_part input job view picture.tiles.items ++ axes_text view)

-- the ways with their starts
unfoldable pub ways_text : List ℕ → JobView → View → Picture → List ℕ
ways_text input job view picture =
    tracks_part input job view picture.tracks.items ++ starts_text view picture.tracks.items picture.channels.items

-- the names of the zones, and the labels
unfoldable pub names_text : List ℕ → JobView → View → Picture → List ℕ
names_text input job view picture = zones_part input job view picture.tiles.items ++ labels_part input view picture.tiles.items

-- what a view shows
unfoldable pub view_text : List ℕ → JobView → View → Picture → List ℕ
view_text input job view picture = ground_text input job view picture ++ (ways_text input job view picture ++ names_text input job view picture)
