-- Meaning. How ways turn: an arc goes from its first direction towards its second.
use Rattle.std.specs.Prelude.{ℕ, ℤ, pos, not, Bool, ◌==◌, ◌&&◌, ◌||◌, List, [], ◌∷◌, if◌then◌else◌, int_lt}
use Rattle.explain_views.specs.declared.shapes.Track.{Track}
use Rattle.explain_views.specs.declared.shapes.Turn.{Turn}
use Rattle.explain_views.specs.Marks.{along, plus, minus, times}

-- a direction is of the plane of a turn
abbrev pub is_in : Turn → ℕ → Bool
is_in turn direction = turn.first.0 == direction || turn.second.0 == direction

-- the place on the other side of the centre, along a direction in which the turn goes
unfoldable pub mirrored : Turn → List ℤ → ℕ → ℤ
mirrored turn at direction =
    if is_in turn direction then plus (along turn.centre direction) (minus (along turn.centre direction) (along at direction)) else along at direction

-- the place of a whole turn that is the farthest from a place of it
unfoldable pub opposite : Turn → List ℤ → List ℤ
opposite turn at = mirrored turn at 0 ∷ mirrored turn at 1 ∷ mirrored turn at 2 ∷ []

-- how far a place is from the centre along a direction, counted against it where so it is said
unfoldable pub offset : Turn → List ℤ → ℕ × Bool → ℤ
offset turn at direction =
    if direction.1 then minus (pos 0) (minus (along at direction.0) (along turn.centre direction.0)) else minus (along at direction.0) (along turn.centre direction.0)

-- along both directions of the turn
abbrev pub offsets : Turn → List ℤ → ℤ × ℤ
offsets turn at = (offset turn at turn.first, offset turn at turn.second)

-- it is more than half a circle: its end lies behind the line from its start through its centre
unfoldable pub is_large : Turn → Track → Bool
is_large turn track =
    int_lt (times (offsets turn track.from).0 (offsets turn track.to).1) (times (offsets turn track.from).1 (offsets turn track.to).0)

-- just one of its directions is counted against the drawing
abbrev pub is_flipped : Turn → Bool
is_flipped turn = if turn.first.1 then not turn.second.1 else turn.second.1

-- it is clockwise where this direction is upwards and the other one to the right
unfoldable pub is_clockwise : Turn → ℕ → Bool
is_clockwise turn up = if is_flipped turn then not (turn.first.0 == up) else turn.first.0 == up

-- it is in the plane of two directions
unfoldable pub is_in_plane : Turn → ℕ → ℕ → Bool
is_in_plane turn across up = not (across == up) && (is_in turn across && is_in turn up)
