-- Meaning. The words of a drawing: what a reader of it is told of boxes, ways and blocks.
use Rattle.std.specs.Prelude.{ℕ, ℤ, ◌+◌, ◌==◌, Bool, List, [], ◌∷◌, ◌++◌, if◌then◌else◌, drop, take, Option, None, Some, codes}
use Rattle.std.specs.Fmt.{decimal}
use Rattle.std.specs.List.{position}
use Rattle.std.specs.Option.{option_map_or}
use Rattle.growing_text.specs.Lengths.{millimetres_text}
use Rattle.explain_lines.specs.Lines.{line_text}
use Rattle.explain_lines.specs.Numbers.{block_number_of}
use Rattle.job_types.specs.Job.{JobView}
use Rattle.job_types.specs.Zones.{zone_line}
use Rattle.job_types.specs.declared.job.ZoneLine.{ZoneLine}
use Rattle.explain_views.specs.Marks.{along}
use Rattle.explain_views.specs.Shown.{shown_text}
use Rattle.explain_views.specs.declared.shapes.Tile.{Tile}
use Rattle.explain_views.specs.declared.shapes.Track.{Track}
use Rattle.explain_drawing.specs.declared.words.TheConstants.{NUMBER_LIMIT, TEXT_LIMIT}
use Rattle.sync_types.specs.declared.verdicts.PlaceName.{PlaceName}
use Rattle.explain_places.specs.Lines.{channel_text, number_text, of_text, program_name}

-- the number of a line, and that of its block
unfoldable pub number_words : List ℕ → ℕ → List ℕ
number_words input line = codes "line " ++ (decimal line ++ number_text (take NUMBER_LIMIT (block_number_of (line_text input line))))

-- the same with its program
unfoldable pub line_words : List ℕ → JobView → ℕ → List ℕ
line_words input job line = number_words input line ++ of_text (program_name job line)

-- a text of the input, as far as it is shown
unfoldable pub front_text : List ℕ → List ℕ
front_text text = shown_text (take TEXT_LIMIT text)

-- and how the line reads
unfoldable pub block_words : List ℕ → JobView → ℕ → List ℕ
block_words input job line = line_words input job line ++ (codes ": " ++ front_text (line_text input line))

-- who holds a zone
unfoldable pub holder_words : Option ℕ → List ℕ
holder_words (Some channel) = codes " of " ++ channel_text channel
holder_words None = codes " held by nobody"

-- a zone, and who holds it
unfoldable pub zone_words : PlaceName → List ℕ
zone_words name = codes "zone " ++ (decimal name.zone ++ holder_words name.channel)

-- it moves, or it stands
abbrev pub motion_words : Bool → List ℕ
motion_words moves = if moves then codes " moves: " else codes " stands: "

-- where a zone is declared
unfoldable pub declared_words : List ℕ → JobView → ℕ → List ℕ
declared_words input job number = option_map_or (λ zone. block_words input job zone.line) (zone_line job number) []

-- the block of a box; the ZONE line of one that has no block
unfoldable pub name_words : List ℕ → JobView → PlaceName → List ℕ
name_words input job name = if name.line == 0 then declared_words input job name.zone else block_words input job name.line

-- a box: its zone with its holder, whether it moves, and its block
unfoldable pub tile_words : List ℕ → JobView → Tile → List ℕ
tile_words input job tile = zone_words tile.name ++ (motion_words tile.moves ++ name_words input job tile.name)

-- a place in millimetres
unfoldable pub point_words : List ℤ → List ℕ
point_words at =
    codes "X " ++ (millimetres_text (along at 0) ++ (codes " Y " ++ (millimetres_text (along at 1) ++ (codes " Z " ++ millimetres_text (along at 2)))))

-- from where to where a way goes
unfoldable pub ends_words : Track → List ℕ
ends_words track = codes "\nfrom " ++ (point_words track.from ++ (codes " to " ++ point_words track.to))

-- the zone of a way
unfoldable pub owner_words : Track → List ℕ
owner_words track = codes "zone " ++ (decimal track.zone ++ codes ": ")

-- a way: its zone, its block, and its ends
unfoldable pub track_words : List ℕ → JobView → Track → List ℕ
track_words input job track = owner_words track ++ (block_words input job track.line ++ ends_words track)

-- what stands after the first semicolon of a line, 59
abbrev pub is_semicolon : ℕ → Bool
is_semicolon byte = byte == 59

unfoldable pub comment_of : List ℕ → List ℕ
comment_of text = option_map_or (λ place. drop (place + 1) text) (position is_semicolon text) []

-- a comment after a name, if there is one
unfoldable pub comment_words : List ℕ → List ℕ
comment_words [] = []
comment_words (byte ∷ bytes) = codes ": " ++ front_text (byte ∷ bytes)

-- a zone, and the comment of its ZONE line
unfoldable pub zone_label : List ℕ → ZoneLine → List ℕ
zone_label input zone = codes "zone " ++ (decimal zone.zone ++ comment_words (comment_of (line_text input zone.line)))

-- the line of a box after its zone, if it has one
unfoldable pub after_zone : List ℕ → ℕ → List ℕ
after_zone input line = if line == 0 then [] else codes ", " ++ number_words input line

-- a box that is labelled
unfoldable pub tile_label : List ℕ → Tile → List ℕ
tile_label input tile = codes "zone " ++ (decimal tile.name.zone ++ after_zone input tile.name.line)
