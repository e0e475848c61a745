-- Meaning. Lines over a view at whole millimetres, each with its number.
use Rattle.std.specs.Prelude.{ℕ, ℤ, pos, ◌&&◌, Bool, List, [], ◌++◌, if◌then◌else◌, flat_map, int_div, int_lt, codes}
use Rattle.std.specs.Int.RustNames.{int_le}
use Rattle.std.specs.List.{range_with_len}
use Rattle.explain_views.specs.declared.extents.Extent.{Extent}
use Rattle.explain_views.specs.declared.ticks.TheConstants.{TICK_COUNT, TICK_LIMIT}
use Rattle.explain_views.specs.declared.views.View.{View}
use Rattle.explain_views.specs.Marks.{ends_text, minus, number_text, place_text, plus, times}
use Rattle.explain_views.specs.Views.{bottom_of, right_of, x_of, y_of}

-- a power of ten millimetres that is some ten letters long
unfoldable pub decade_of : ℤ → ℤ
decade_of letter =
    if int_lt letter (pos 800) then pos 1000
    else if int_lt letter (pos 8000) then pos 10000
    else if int_lt letter (pos 80000) then pos 100000
    else if int_lt letter (pos 800000) then pos 1000000
    else if int_lt letter (pos 8000000) then pos 10000000
    else pos 100000000

-- how far it is from one line to the next: the half of that, itself, its double or five times of it, the least that leaves a number four letters of room
unfoldable pub step_of : ℤ → ℤ
step_of letter =
    if int_le (times letter (pos 4)) (int_div (decade_of letter) (pos 2)) then int_div (decade_of letter) (pos 2)
    else if int_le (times letter (pos 4)) (decade_of letter) then decade_of letter
    else if int_le (times letter (pos 4)) (times (decade_of letter) (pos 2)) then times (decade_of letter) (pos 2)
    else times (decade_of letter) (pos 5)

-- the place of a line, counted from the farthest below 0
unfoldable pub tick_at : View → ℕ → ℤ
tick_at view n = times (step_of view.letter) (minus (pos n) (pos TICK_LIMIT))

-- a view shows a place
abbrev pub is_within : Extent → ℤ → Bool
is_within extent place = int_le extent.low place && int_le place extent.high

-- the number of a line: its place in millimetres
unfoldable pub millimetres_text : ℤ → List ℕ
millimetres_text place = number_text (int_div place (pos 1000)) ++ codes "</text>\n"

-- a line over a view
unfoldable pub grid_text : ℤ × ℤ → ℤ × ℤ → List ℕ
grid_text from to = codes "<line class=\"grid\"" ++ ends_text from to

-- where the upright line of a place begins and ends, and where its number stands: below the view
abbrev pub upright_top : View → ℤ → ℤ × ℤ
upright_top view place = (x_of view place, view.top)

abbrev pub upright_foot : View → ℤ → ℤ × ℤ
upright_foot view place = (x_of view place, bottom_of view)

abbrev pub below_place : View → ℤ → ℤ × ℤ
below_place view place = (x_of view place, plus (bottom_of view) view.letter)

-- an upright line, and its number
unfoldable pub across_number : View → ℤ → List ℕ
across_number view place = codes "<text class=\"tick mid\"" ++ (place_text (below_place view place) ++ millimetres_text place)

unfoldable pub across_tick : View → ℤ → List ℕ
across_tick view place = grid_text (upright_top view place) (upright_foot view place) ++ across_number view place

-- where the level line of a place begins and ends, and where its number stands: to the left of the view
abbrev pub level_left : View → ℤ → ℤ × ℤ
level_left view place = (view.left, y_of view place)

abbrev pub level_right : View → ℤ → ℤ × ℤ
level_right view place = (right_of view, y_of view place)

abbrev pub beside_place : View → ℤ → ℤ × ℤ
beside_place view place = (minus view.left (int_div view.letter (pos 3)), plus (y_of view place) (int_div view.letter (pos 4)))

-- a level line, and its number
unfoldable pub up_number : View → ℤ → List ℕ
up_number view place = codes "<text class=\"tick end\"" ++ (place_text (beside_place view place) ++ millimetres_text place)

unfoldable pub up_tick : View → ℤ → List ℕ
up_tick view place = grid_text (level_left view place) (level_right view place) ++ up_number view place

-- of both the one of this number, where the view shows its place
unfoldable pub across_part : View → ℕ → List ℕ
across_part view n = if is_within view.wide (tick_at view n) then across_tick view (tick_at view n) else []

unfoldable pub up_part : View → ℕ → List ℕ
up_part view n = if is_within view.tall (tick_at view n) then up_tick view (tick_at view n) else []

-- all of them
unfoldable pub across_ticks : View → List ℕ
across_ticks view = flat_map (across_part view) (range_with_len 0 TICK_COUNT)

unfoldable pub up_ticks : View → List ℕ
up_ticks view = flat_map (up_part view) (range_with_len 0 TICK_COUNT)

unfoldable pub ticks_text : View → List ℕ
ticks_text view = across_ticks view ++ up_ticks view
