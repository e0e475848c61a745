-- Meaning. The two boxes that the verdict names, in red.
use Rattle.std.specs.Prelude.{◌==◌, Bool, true, false, List, [], ◌∷◌, ◌++◌, find, Option, None, Some}
use Rattle.std.specs.Option.{is_some, option_map_or}
use Rattle.job_types.specs.Job.{JobView}
use Rattle.zone_stretches.specs.Pieces.{piece_boxes}
use Rattle.zone_stretches.specs.declared.stretches.ZoneBox.{ZoneBox}
use Rattle.explain_views.specs.declared.shapes.Look.{Look}
use Rattle.explain_views.specs.declared.shapes.Look.TheVariants.{First, Second}
use Rattle.explain_views.specs.declared.shapes.Tile.{Tile}
use Rattle.explain_pictures.specs.Focus.{stretch_of}
use Rattle.swept_boxes.specs.declared.Box3.{Box3}
use Rattle.sync_types.specs.Views.{RunView}
use Rattle.explain_places.specs.declared.place.Meeting.{Meeting}
use Rattle.explain_places.specs.declared.place.Place.{Place}

-- a piece of a box, labelled or not
abbrev pub named_piece : Bool → Tile → Box3 → Tile
named_piece marked tile piece = record tile { space = piece; is_labelled = marked }

-- a box in pieces, of which this one is labelled or not, and no later one is
abbrev pub labelled : Bool → Tile → List Box3 → List Tile
labelled marked tile [] = []
labelled marked tile (piece ∷ pieces) = named_piece marked tile piece ∷ labelled false tile pieces

-- the box of a place, in this look and with its name
abbrev pub named_tile : Look → Place → Tile
named_tile look place = record { space = place.cover; look = look; name = place.name; moves = is_some place.motion; is_labelled = true; is_pale = false }

-- the box of a place
abbrev pub box_of : Place → ZoneBox
box_of place = record { line = place.name.line; motion = place.motion; from = place.from; to = place.to; cover = place.cover }

-- a named box by its pieces, the first with its name
unfoldable pub tiles_of_place : JobView → RunView → Look → Place → List Tile
tiles_of_place job run look place =
    option_map_or (λ zone. labelled true (named_tile look place) (piece_boxes job run (record { zone = zone; stretch = stretch_of place; box = box_of place })))
    (find (λ line. line.zone == place.name.zone) job.zones) []

-- both of them
unfoldable pub named_tiles : JobView → RunView → Option Meeting → List Tile
named_tiles job run None = []
named_tiles job run (Some met) = tiles_of_place job run First met.left ++ tiles_of_place job run Second met.right
