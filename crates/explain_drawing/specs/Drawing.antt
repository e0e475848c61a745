-- Meaning. A picture as a drawing in SVG: its head, the views of space, and below them the time of the channels.
use Rattle.std.specs.Prelude.{ℕ, ℤ, pos, List, [], ◌++◌, if◌then◌else◌, int_div, codes}
use Rattle.std.specs.Int.{int_max}
use Rattle.explain_views.specs.declared.shapes.Picture.{Picture}
use Rattle.explain_drawing.specs.declared.styles.TheConstants.{LEGEND, STYLES}
use Rattle.explain_drawing.specs.declared.times.Lanes.{Lanes}
use Rattle.explain_views.specs.declared.views.View.{View}
use Rattle.explain_views.specs.Extents.{extent_of, has_motion, length_of}
use Rattle.explain_views.specs.Marks.{attribute_text, number_text, plus, size_text, times}
use Rattle.explain_drawing.specs.Space.{view_text}
use Rattle.explain_drawing.specs.Times.{lanes_of, lanes_text}
use Rattle.explain_drawing.specs.Times.{bottom_of as lanes_bottom}
use Rattle.explain_views.specs.Views.{view_of}
use Rattle.explain_views.specs.Views.{bottom_of as view_bottom}
use Rattle.explain_drawing.specs.Titles.{title_text}
use Rattle.sync_types.specs.declared.verdicts.Verdict.{Verdict}
use Rattle.job_types.specs.Job.{JobView}

-- the greater of how far Z and X reach, and 10 millimetres at least; a letter is the fiftieth part
unfoldable pub span_of : Picture → ℤ
span_of picture = int_max (int_max (length_of (extent_of picture 2)) (length_of (extent_of picture 0))) (pos 10000)

unfoldable pub letter_of : Picture → ℤ
letter_of picture = int_div (span_of picture) (pos 50)

-- X over Z, below the title, and below it Y over Z
unfoldable pub first_view : Picture → View
first_view picture = view_of picture 0 (times (letter_of picture) (pos 7)) (letter_of picture)

unfoldable pub second_view : Picture → View
second_view picture = view_of picture 1 (plus (view_bottom (first_view picture)) (times (letter_of picture) (pos 4))) (letter_of picture)

-- the second is there where anything moves along Y
unfoldable pub views_end : Picture → ℤ
views_end picture = if has_motion picture 1 then view_bottom (second_view picture) else view_bottom (first_view picture)

-- so many letters below the views
unfoldable pub below : Picture → ℤ → ℤ
below picture letters = plus (views_end picture) (times (letter_of picture) letters)

-- the lanes
unfoldable pub lanes_in : Picture → Lanes
lanes_in picture = lanes_of picture (below picture (pos 8)) (letter_of picture)

-- how wide and how tall the drawing is
unfoldable pub page_of : Picture → ℤ × ℤ
page_of picture = (plus (span_of picture) (times (letter_of picture) (pos 8)), plus (lanes_bottom (lanes_in picture)) (letter_of picture))

-- how far it reaches, with the size of its letters
unfoldable pub frame_text : ℤ × ℤ → ℤ → List ℕ
frame_text page letter = number_text page.0 ++ (codes " " ++ (number_text page.1 ++ (codes "\"" ++ attribute_text (codes "font-size") letter)))

-- the white ground
unfoldable pub paper_text : ℤ × ℤ → List ℕ
paper_text page = codes ">\n<rect fill=\"#fff\"" ++ (size_text page ++ codes "/>\n")

-- both for a picture
unfoldable pub frame_part : Picture → List ℕ
frame_part picture = frame_text (page_of picture) (letter_of picture)

unfoldable pub paper_part : Picture → List ℕ
paper_part picture = paper_text (page_of picture)

-- the head
unfoldable pub head_text : Picture → List ℕ
head_text picture =
    codes "<svg xmlns=\"http://www.w3.org/2000/svg\" viewBox=\"0 0 " ++ (frame_part picture ++ (paper_part picture ++ STYLES.now))

-- the views
unfoldable pub views_text : List ℕ → JobView → Picture → List ℕ
views_text input job picture =
    view_text input job (first_view picture) picture ++ (if has_motion picture 1 then view_text input job (second_view picture) picture else [])

-- both numbers of a place
unfoldable pub pair_text : ℤ × ℤ → List ℕ
pair_text at = number_text at.0 ++ (codes " " ++ number_text at.1)

-- what the signs of the drawing are
unfoldable pub legend_text : ℤ × ℤ → List ℕ
legend_text at = codes "<g transform=\"translate(" ++ (pair_text at ++ (codes ")\">\n" ++ LEGEND.now))

-- the place so many letters below the views, two letters from the left edge
unfoldable pub place_below : Picture → ℤ → ℤ × ℤ
place_below picture letters = (times (letter_of picture) (pos 2), below picture letters)

-- what the signs of the drawing are, and the lanes
unfoldable pub legend_part : Picture → List ℕ
legend_part picture = legend_text (place_below picture (pos 3))

unfoldable pub lanes_part : List ℕ → JobView → Verdict → Picture → List ℕ
lanes_part input job verdict picture = lanes_text input job verdict (lanes_in picture) picture

-- what stands below the views
unfoldable pub foot_text : List ℕ → JobView → Verdict → Picture → List ℕ
foot_text input job verdict picture = legend_part picture ++ lanes_part input job verdict picture

-- a note where something is left out, and the end
unfoldable pub end_text : Picture → List ℕ
end_text picture =
    (if picture.is_cut then codes "<text class=\"named\" x=\"1em\" y=\"5.6em\">only a part is drawn: there is too much of it</text>\n" else []) ++ codes "</svg>\n"

-- the title of a picture: the verdict in these words, and what it names
unfoldable pub title_part : List ℕ → JobView → List ℕ → Verdict → Picture → List ℕ
title_part input job title verdict picture = title_text input job title verdict (letter_of picture)

-- the title and the views
unfoldable pub top_text : List ℕ → JobView → List ℕ → Verdict → Picture → List ℕ
top_text input job title verdict picture = title_part input job title verdict picture ++ views_text input job picture

-- the drawing of a picture of a job, from the lines of its input and with the verdict in these words
unfoldable pub drawing_text : List ℕ → JobView → List ℕ → Verdict → Picture → List ℕ
drawing_text input job title verdict picture = head_text picture ++ (top_text input job title verdict picture ++ (foot_text input job verdict picture ++ end_text picture))
