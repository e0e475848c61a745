-- Meaning. How a view shows boxes, ways and axes.
use Rattle.std.specs.Prelude.{ℕ, ℤ, pos, ◌==◌, Bool, false, List, [], ◌++◌, if◌then◌else◌, Option, find, flat_map, int_div, codes}
use Rattle.std.specs.Option.{option_map_or}
use Rattle.std.specs.Fmt.{decimal}
use Rattle.explain_views.specs.declared.shapes.Look.{Look}
use Rattle.explain_views.specs.declared.shapes.Look.TheVariants.{Held, Free, First, Second}
use Rattle.explain_views.specs.declared.shapes.Picture.{Picture}
use Rattle.explain_views.specs.declared.shapes.Tile.{Tile}
use Rattle.explain_views.specs.declared.shapes.Track.{Track}
use Rattle.explain_views.specs.declared.shapes.Turn.{Turn}
use Rattle.explain_views.specs.declared.views.View.{View}
use Rattle.explain_views.specs.Extents.{extent_of}
use Rattle.explain_views.specs.Extents.{length_of as extent_length}
use Rattle.explain_views.specs.Marks.{along, box_text, class_text, ends_text, length_of, look_text, minus, number_text, pale_class, place_text, plus, round_text, times}
use Rattle.explain_views.specs.Turns.{is_clockwise, is_in_plane, is_large, opposite}

-- the view of a picture over Z, four letters from the left edge of the drawing
unfoldable pub view_of : Picture → ℕ → ℤ → ℤ → View
view_of picture up top letter =
    record { across = 2; up = up; wide = extent_of picture 2; tall = extent_of picture up; left = times letter (pos 4); top = top; letter = letter }

-- where its right and its lower edge stand
abbrev pub right_of : View → ℤ
right_of view = plus view.left (extent_length view.wide)

abbrev pub bottom_of : View → ℤ
bottom_of view = plus view.top (extent_length view.tall)

-- where a place stands in the drawing, from the left and from above
unfoldable pub x_of : View → ℤ → ℤ
x_of view place = plus view.left (minus place view.wide.low)

unfoldable pub y_of : View → ℤ → ℤ
y_of view place = plus view.top (minus view.tall.high place)

-- a place in space as a point of a path
unfoldable pub point_text : View → List ℤ → List ℕ
point_text view at = number_text (x_of view (along at view.across)) ++ (codes " " ++ number_text (y_of view (along at view.up)))

-- the upper left corner of a box, and how far it reaches
unfoldable pub corner_of : View → Tile → ℤ × ℤ
corner_of view tile = (x_of view (along tile.space.lo view.across), y_of view (along tile.space.hi view.up))

unfoldable pub size_of : View → Tile → ℤ × ℤ
size_of view tile = (length_of (along tile.space.lo view.across) (along tile.space.hi view.across), length_of (along tile.space.lo view.up) (along tile.space.hi view.up))

-- a box from its upper left corner on, as far as it reaches
unfoldable pub tile_text : View → Tile → List ℕ
tile_text view tile =
    codes "<rect class=\"" ++ (pale_class tile.is_pale ++ (look_text tile.look ++ (codes "\"" ++ box_text (corner_of view tile) (size_of view tile))))

-- how far below the upper edge of a box its name stands: near the lower edge in the second of two
abbrev pub depth_by : Look → ℤ → ℤ → ℤ
depth_by (Held channel) height letter = letter
depth_by Free height letter = letter
depth_by First height letter = letter
depth_by Second height letter = minus height (int_div letter (pos 3))

unfoldable pub label_depth : View → Tile → ℤ
label_depth view tile = depth_by tile.look (size_of view tile).1 view.letter

-- where the name of a box stands
unfoldable pub label_place : View → Tile → ℤ × ℤ
label_place view tile = (plus (corner_of view tile).0 (int_div view.letter (pos 3)), plus (corner_of view tile).1 (label_depth view tile))

-- a straight way to a place
unfoldable pub straight_text : View → List ℤ → List ℕ
straight_text view to = codes " L " ++ point_text view to

-- an arc: its radii, whether it is more than half a circle, whether it is clockwise, and where it ends
unfoldable pub radii_text : Turn → List ℕ
radii_text turn = codes " A " ++ (decimal turn.radius ++ (codes " " ++ decimal turn.radius))

abbrev pub large_flag : Bool → List ℕ
large_flag large = if large then codes " 0 1 " else codes " 0 0 "

abbrev pub sweep_flag : Bool → List ℕ
sweep_flag clockwise = if clockwise then codes "1 " else codes "0 "

unfoldable pub flags_text : View → Turn → Bool → List ℕ
flags_text view turn large = large_flag large ++ sweep_flag (is_clockwise turn view.up)

unfoldable pub arc_text : View → Turn → Bool → List ℤ → List ℕ
arc_text view turn large to = radii_text turn ++ (flags_text view turn large ++ point_text view to)

-- a turn; a whole one in two halves
unfoldable pub turn_text : View → Turn → Track → List ℕ
turn_text view turn track =
    if turn.full then arc_text view turn false (opposite turn track.from) ++ arc_text view turn false track.to else arc_text view turn (is_large turn track) track.to

-- a turn that the view does not show as an arc is a straight way
unfoldable pub bent_text : View → Turn → Track → List ℕ
bent_text view turn track = if is_in_plane turn view.across view.up then turn_text view turn track else straight_text view track.to

-- how a way goes on from its start
unfoldable pub way_text : View → Track → List ℕ
way_text view track = option_map_or (λ turn. bent_text view turn track) track.turn (straight_text view track.to)

-- the class of a way: one in which each axis goes by itself has a class of its own
abbrev pub way_class : Bool → List ℕ
way_class rapid = if rapid then codes "t r d" else codes "t d"

-- its classes, the last of them the colour of its channel
unfoldable pub way_colour : Track → List ℕ
way_colour track = codes "<path class=\"" ++ (pale_class track.is_pale ++ (way_class track.is_rapid ++ decimal track.channel))

-- where it starts
unfoldable pub way_start : View → Track → List ℕ
way_start view track = way_colour track ++ (codes "\" d=\"M " ++ point_text view track.from)

-- a way
unfoldable pub track_text : View → Track → List ℕ
track_text view track = way_start view track ++ (way_text view track ++ codes "\"/>\n")

-- where a way begins
unfoldable pub start_of : View → Track → ℤ × ℤ
start_of view track = (x_of view (along track.from view.across), y_of view (along track.from view.up))

-- the first place of a way
unfoldable pub start_text : View → Track → List ℕ
start_text view track = class_text track.channel ++ round_text (start_of view track) (int_div view.letter (pos 3))

-- the first way of a channel, and its first place
abbrev pub first_track_of : List Track → ℕ → Option Track
first_track_of tracks channel = find (λ track. track.channel == channel) tracks

unfoldable pub first_start : View → List Track → ℕ → List ℕ
first_start view tracks channel = option_map_or (start_text view) (first_track_of tracks channel) []

-- a line on which a direction is 0
unfoldable pub rule_text : ℤ × ℤ → ℤ × ℤ → List ℕ
rule_text from to = codes "<line class=\"axis\"" ++ ends_text from to

-- where the line begins and ends on which the direction upwards is 0, and the one on which the direction across is 0
abbrev pub level_start : View → ℤ × ℤ
level_start view = (view.left, y_of view (pos 0))

abbrev pub level_end : View → ℤ × ℤ
level_end view = (right_of view, y_of view (pos 0))

abbrev pub upright_start : View → ℤ × ℤ
upright_start view = (x_of view (pos 0), view.top)

abbrev pub upright_end : View → ℤ × ℤ
upright_end view = (x_of view (pos 0), bottom_of view)

-- these lines
unfoldable pub level_text : View → List ℕ
level_text view = rule_text (level_start view) (level_end view)

unfoldable pub upright_text : View → List ℕ
upright_text view = rule_text (upright_start view) (upright_end view)

unfoldable pub rules_text : View → List ℕ
rules_text view = level_text view ++ upright_text view

-- where the names of the directions stand: at the ends of their lines
unfoldable pub across_place : View → ℤ × ℤ
across_place view = (plus (right_of view) (int_div view.letter (pos 3)), plus (y_of view (pos 0)) (int_div view.letter (pos 3)))

unfoldable pub up_place : View → ℤ × ℤ
up_place view = (x_of view (pos 0), minus view.top (int_div view.letter (pos 3)))

-- the name of the direction upwards, with the end of its text
abbrev pub up_name : ℕ → List ℕ
up_name up = if up == 1 then codes "Y mm</text>\n" else codes "X mm</text>\n"

-- both names
unfoldable pub names_text : View → List ℕ
names_text view =
    codes "<text" ++ (place_text (across_place view) ++ (codes "Z mm</text>\n<text class=\"mid\"" ++ (place_text (up_place view) ++ up_name view.up)))

-- the lines on which the directions are 0, with their names
unfoldable pub axes_text : View → List ℕ
axes_text view = rules_text view ++ names_text view

-- the first places of these channels
unfoldable pub starts_text : View → List Track → List ℕ → List ℕ
starts_text view tracks channels = flat_map (first_start view tracks) channels
