-- Meaning. The time of the channels: a lane for each, downwards.
use Rattle.std.specs.Prelude.{ℕ, ℤ, pos, ◌+◌, ◌-◌, ◌^◌, min, not, ◌==◌, ◌&&◌, ◌||◌, nat_le, Bool, true, false, List, [], ◌++◌, if◌then◌else◌, flat_map, length, slice_get, take, int_div, codes, Option, None, Some}
use Rattle.std.specs.List.{fold, position}
use Rattle.std.specs.Option.{option_map_or, unwrap_or}
use Rattle.std.specs.Fmt.{decimal}
use Rattle.explain_views.specs.declared.shapes.Deed.{Deed}
use Rattle.explain_views.specs.declared.shapes.Deed.TheVariants.{Acts, Waits, GoesOn, Ends}
use Rattle.explain_views.specs.declared.shapes.Moment.{Moment}
use Rattle.explain_views.specs.declared.shapes.Picture.{Picture}
use Rattle.explain_views.specs.declared.shapes.Span.{Span}
use Rattle.explain_views.specs.Shown.{shown_text}
use Rattle.explain_drawing.specs.Space.{hover_text}
use Rattle.explain_drawing.specs.Words.{block_words, is_semicolon, name_words, zone_words}
use Rattle.sync_types.specs.declared.verdicts.Verdict.{Verdict}
use Rattle.sync_types.specs.declared.verdicts.Verdict.TheVariants.{Alarm, No, Race, Stuck, Undecided, Yes}
use Rattle.explain_drawing.specs.declared.times.Lanes.{Lanes}
use Rattle.explain_drawing.specs.declared.times.TheConstants.{LABEL_LIMIT}
use Rattle.explain_lines.specs.Lines.{line_text as input_line}
use Rattle.job_types.specs.Job.{JobView}
use Rattle.explain_views.specs.Marks.{box_text, ends_text, minus, place_text, plus, round_text, times}

-- how many steps a run has: one more than the last one's number
unfoldable pub steps_in : List Moment → ℕ
steps_in moments = option_map_or (λ moment. min (moment.step + 1) (2 ^ 32 - 1)) (slice_get moments (length moments - 1)) 0

-- the lane of zones that nobody holds: that after the last channel
unfoldable pub free_lane : List ℕ → ℕ
free_lane channels = min (unwrap_or (slice_get channels (length channels - 1)) 0) 8 + 1

-- the lanes of a picture
unfoldable pub lanes_of : Picture → ℤ → ℤ → Lanes
lanes_of picture top letter = record { top = top; letter = letter; steps = steps_in picture.moments.items; free = free_lane picture.channels.items }

-- a job has few channels, so that lanes have room for whole blocks
abbrev pub has_room : Lanes → Bool
has_room lanes = nat_le lanes.free 4

-- the lines of blocks are written
abbrev pub is_labelled : Lanes → Bool
is_labelled lanes = nat_le lanes.steps LABEL_LIMIT

-- how far it is from one step to the next
unfoldable pub row_of : Lanes → ℤ
row_of lanes = if is_labelled lanes then int_div (times lanes.letter (pos 3)) (pos 2) else int_div lanes.letter (pos 2)

-- where a step stands, and where the lanes end
unfoldable pub y_of : Lanes → ℕ → ℤ
y_of lanes step = plus (plus lanes.top (times lanes.letter (pos 2))) (times (row_of lanes) (pos step))

abbrev pub bottom_of : Lanes → ℤ
bottom_of lanes = y_of lanes lanes.steps

-- how many letters it is from one lane to the next
abbrev pub spacing_of : Lanes → ℤ
spacing_of lanes = if has_room lanes then pos 12 else pos 6

-- where a lane stands: the first one four letters from the left edge
unfoldable pub x_of : Lanes → ℕ → ℤ
x_of lanes lane = times lanes.letter (plus (times (spacing_of lanes) (pos (lane - 1))) (pos 4))

abbrev pub place_of : Lanes → Moment → ℤ × ℤ
place_of lanes moment = (x_of lanes moment.channel, y_of lanes moment.step)

-- where the name of a channel stands, and where its lane begins and ends
abbrev pub name_place : Lanes → ℕ → ℤ × ℤ
name_place lanes channel = (x_of lanes channel, lanes.top)

abbrev pub lane_start : Lanes → ℕ → ℤ × ℤ
lane_start lanes channel = (x_of lanes channel, plus lanes.top (int_div lanes.letter (pos 2)))

abbrev pub lane_end : Lanes → ℕ → ℤ × ℤ
lane_end lanes channel = (x_of lanes channel, bottom_of lanes)

-- the name of a channel over its lane
unfoldable pub name_text : Lanes → ℕ → List ℕ
name_text lanes channel = codes "<text class=\"name c" ++ (decimal channel ++ (codes "\"" ++ place_text (name_place lanes channel)))

-- a lane
unfoldable pub line_text : Lanes → ℕ → List ℕ
line_text lanes channel = codes "</text>\n<line class=\"lane\"" ++ ends_text (lane_start lanes channel) (lane_end lanes channel)

-- both
unfoldable pub lane_text : Lanes → ℕ → List ℕ
lane_text lanes channel = name_text lanes channel ++ (codes "channel " ++ (decimal channel ++ line_text lanes channel))

-- the radius of a point
abbrev pub radius_of : Lanes → ℤ
radius_of lanes = int_div lanes.letter (pos 3)

-- where a point stands, with its size
unfoldable pub disc_text : Lanes → ℤ × ℤ → List ℕ
disc_text lanes at = round_text at (radius_of lanes)

-- a point, and a square
unfoldable pub dot_text : Lanes → List ℕ → ℤ × ℤ → List ℕ
dot_text lanes class at = codes "<circle class=\"" ++ (class ++ (codes "\"" ++ disc_text lanes at))

unfoldable pub square_corner : Lanes → ℤ × ℤ → ℤ × ℤ
square_corner lanes at = (minus at.0 (int_div lanes.letter (pos 3)), minus at.1 (int_div lanes.letter (pos 3)))

unfoldable pub square_size : Lanes → ℤ × ℤ
square_size lanes = (times (int_div lanes.letter (pos 3)) (pos 2), times (int_div lanes.letter (pos 3)) (pos 2))

unfoldable pub square_text : Lanes → ℤ × ℤ → List ℕ
square_text lanes at = codes "<rect class=\"act\"" ++ box_text (square_corner lanes at) (square_size lanes)

-- the point of what a channel does
unfoldable pub deed_text : Lanes → Deed → ℤ × ℤ → List ℕ
deed_text lanes Acts at = dot_text lanes (codes "act") at
deed_text lanes Waits at = dot_text lanes (codes "wait") at
deed_text lanes GoesOn at = dot_text lanes (codes "go") at
deed_text lanes Ends at = square_text lanes at

-- where the channel stands whose block makes the step
abbrev pub actor_place : Lanes → Moment → ℤ × ℤ
actor_place lanes moment = (x_of lanes moment.actor, y_of lanes moment.step)

-- the line from there to one that goes on in the step, where that is another channel
unfoldable pub link_text : Lanes → Moment → List ℕ
link_text lanes moment = codes "<line class=\"join\"" ++ ends_text (actor_place lanes moment) (place_of lanes moment)

unfoldable pub join_text : Lanes → Moment → List ℕ
join_text lanes moment = if moment.actor == moment.channel then [] else link_text lanes moment

-- it begins to wait
abbrev pub is_wait : Deed → Bool
is_wait Acts = false
is_wait Waits = true
is_wait GoesOn = false
is_wait Ends = false

-- what stands before the first semicolon of a line
unfoldable pub code_of : List ℕ → List ℕ
code_of text = option_map_or (λ place. take place text) (position is_semicolon text) text

-- where the block of a moment stands
unfoldable pub label_place : Lanes → Moment → ℤ × ℤ
label_place lanes moment = (plus (x_of lanes moment.channel) lanes.letter, minus (y_of lanes moment.step) (int_div lanes.letter (pos 6)))

-- how many bytes of a block have room beside its point
abbrev pub room_of : Lanes → ℕ
room_of lanes = if has_room lanes then 24 else 12

-- a block without its comment, as far as there is room
unfoldable pub block_front : Lanes → List ℕ → List ℕ
block_front lanes text = take (room_of lanes) (code_of text)

-- the block of a moment
unfoldable pub block_text : List ℕ → Lanes → Moment → List ℕ
block_text input lanes moment =
    codes "<text class=\"step\"" ++ (place_text (label_place lanes moment) ++ (shown_text (block_front lanes (input_line input moment.line)) ++ codes "</text>\n"))

-- where a moment has one and blocks are written
unfoldable pub label_text : List ℕ → Lanes → Moment → List ℕ
label_text input lanes moment = if is_labelled lanes && not (moment.line == 0) then block_text input lanes moment else []

-- what a channel does
unfoldable pub deed_words : Deed → List ℕ
deed_words Acts = codes " goes on at once"
deed_words Waits = codes " begins to wait"
deed_words GoesOn = codes " goes on"
deed_words Ends = codes " ends"

-- its block, if it has one
unfoldable pub at_words : List ℕ → JobView → ℕ → List ℕ
at_words input job line = if line == 0 then [] else codes ": " ++ block_words input job line

-- a moment: its step, its channel, what that does, and its block
unfoldable pub step_words : Moment → List ℕ
step_words moment = codes "step " ++ (decimal moment.step ++ (codes ", channel " ++ decimal moment.channel))

unfoldable pub moment_words : List ℕ → JobView → Moment → List ℕ
moment_words input job moment = step_words moment ++ (deed_words moment.deed ++ at_words input job moment.line)

-- the point of a moment with these words
unfoldable pub point_part : List ℕ → JobView → Lanes → Moment → List ℕ
point_part input job lanes moment =
    hover_text (moment_words input job moment) ++ (deed_text lanes moment.deed (place_of lanes moment) ++ codes "</g>\n")

-- this place of a race is that of a moment
abbrev pub is_place_of : ℕ × ℕ → Moment → Bool
is_place_of place moment = place.0 == moment.channel && place.1 == moment.line

-- a moment is one of the two places of a race
unfoldable pub is_raced : Verdict → Moment → Bool
is_raced (Race race) moment = is_place_of race.first moment || is_place_of race.second moment
is_raced (Alarm channel alarm) moment = false
is_raced (Stuck channel line) moment = false
is_raced (Undecided count budget) moment = false
is_raced (No left right) moment = false
is_raced Yes moment = false

-- the radius of a ring
unfoldable pub ring_radius : Lanes → ℤ
ring_radius lanes = times (int_div lanes.letter (pos 5)) (pos 3)

-- where a ring stands, with its size
unfoldable pub hoop_text : Lanes → ℤ × ℤ → List ℕ
hoop_text lanes at = round_text at (ring_radius lanes)

-- a red ring around a point
unfoldable pub ring_text : Lanes → ℤ × ℤ → List ℕ
ring_text lanes at = codes "<circle class=\"bad\"" ++ hoop_text lanes at

-- around a place of a race
unfoldable pub raced_text : Verdict → Lanes → Moment → List ℕ
raced_text verdict lanes moment = if is_raced verdict moment then ring_text lanes (place_of lanes moment) else []

-- a moment: the line to the channel by whose step it goes on, its point, and its block
unfoldable pub moment_text : List ℕ → JobView → Lanes → Moment → List ℕ
moment_text input job lanes moment = join_text lanes moment ++ (point_part input job lanes moment ++ label_text input lanes moment)

-- the same with a ring where the verdict names it
unfoldable pub moment_part : List ℕ → JobView → Verdict → Lanes → Moment → List ℕ
moment_part input job verdict lanes moment = raced_text verdict lanes moment ++ moment_text input job lanes moment

-- a channel waits at last
unfoldable pub last_ring : Lanes → Moment → List ℕ
last_ring lanes moment = if is_wait moment.deed then ring_text lanes (place_of lanes moment) else []

-- a moment of a channel in place of an earlier one
abbrev pub later_moment : ℕ → Option Moment → Moment → Option Moment
later_moment channel earlier moment = if moment.channel == channel then Some moment else earlier

-- the last moment of a channel
unfoldable pub last_moment : List Moment → ℕ → Option Moment
last_moment moments channel = fold (later_moment channel) None moments

-- a ring around it where the channel waits for good
unfoldable pub end_part : Lanes → List Moment → ℕ → List ℕ
end_part lanes moments channel = option_map_or (last_ring lanes) (last_moment moments channel) []

-- where a span of a zone begins and ends in its lane: with the job where it begins with no event, and at the end of the lanes where it lasts
abbrev pub lane_of : Lanes → Span → ℕ
lane_of lanes span = unwrap_or span.name.channel lanes.free

unfoldable pub span_start : Lanes → Span → ℤ × ℤ
span_start lanes span = (x_of lanes (lane_of lanes span), option_map_or (y_of lanes) span.first (plus lanes.top (int_div lanes.letter (pos 2))))

unfoldable pub span_end : Lanes → Span → ℤ × ℤ
span_end lanes span = (x_of lanes (lane_of lanes span), option_map_or (y_of lanes) span.last (bottom_of lanes))

-- the zone of a span and its block
unfoldable pub span_words : List ℕ → JobView → Span → List ℕ
span_words input job span = zone_words span.name ++ (codes ", " ++ name_words input job span.name)

-- a span in red, with these words
unfoldable pub span_line : Lanes → Span → List ℕ
span_line lanes span = codes "<line class=\"span\"" ++ ends_text (span_start lanes span) (span_end lanes span)

unfoldable pub span_part : List ℕ → JobView → Lanes → Span → List ℕ
span_part input job lanes span = hover_text (span_words input job span) ++ (span_line lanes span ++ codes "</g>\n")

-- and beside it its zone
unfoldable pub span_place : Lanes → Span → ℤ × ℤ
span_place lanes span = (minus (span_start lanes span).0 (int_div lanes.letter (pos 2)), plus (span_start lanes span).1 lanes.letter)

unfoldable pub span_label : Lanes → Span → List ℕ
span_label lanes span = codes "<text class=\"step end bad\"" ++ (place_text (span_place lanes span) ++ (codes "zone " ++ (decimal span.name.zone ++ codes "</text>\n")))

unfoldable pub span_text : List ℕ → JobView → Lanes → Span → List ℕ
span_text input job lanes span = span_part input job lanes span ++ span_label lanes span

-- the verdict says that channels stop before their ends
abbrev pub is_stop : Verdict → Bool
is_stop (Race race) = false
is_stop (Alarm channel alarm) = true
is_stop (Stuck channel line) = true
is_stop (Undecided count budget) = false
is_stop (No left right) = false
is_stop Yes = false

-- all spans that the verdict names, and all moments
unfoldable pub spans_part : List ℕ → JobView → Lanes → List Span → List ℕ
spans_part input job lanes spans = flat_map (span_text input job lanes) spans

unfoldable pub moments_part : List ℕ → JobView → Verdict → Lanes → List Moment → List ℕ
moments_part input job verdict lanes moments = flat_map (moment_part input job verdict lanes) moments

-- all rings of waits for good, where the verdict is of these; the last moments are not known where the picture is cut
unfoldable pub ends_part : Verdict → Lanes → Picture → List ℕ
ends_part verdict lanes picture =
    if is_stop verdict && not picture.is_cut then flat_map (end_part lanes picture.moments.items) picture.channels.items else []

-- the lanes, and on them the spans
unfoldable pub lines_text : List ℕ → JobView → Lanes → Picture → List ℕ
lines_text input job lanes picture = flat_map (lane_text lanes) picture.channels.items ++ spans_part input job lanes picture.spans.items

-- the lanes, and on them the spans and what the channels do
unfoldable pub lanes_text : List ℕ → JobView → Verdict → Lanes → Picture → List ℕ
lanes_text input job verdict lanes picture =
    lines_text input job lanes picture ++ (ends_part verdict lanes picture ++ moments_part input job verdict lanes picture.moments.items)
