-- Meaning. The quarters into which the axis crossings cut an arc.
use Rattle.std.specs.Prelude.{ℕ, zero, suc, ◌<◌, ◌≤◌, ◌+◌, ◌-◌, ◌%◌, ◌==◌, pos, Bool, if◌then◌else◌, List, map}
use Rattle.std.specs.Int.RustNames.{int_lt, unsigned_abs}
use Rattle.std.specs.List.{range_with_len}
use Rattle.arc_quadrants.specs.Quadrants.{turned_back, begin_quadrant, end_quadrant}
use Rattle.path_geometry.specs.Arcs.{start_seen, end_seen}
use Rattle.path_geometry.specs.Vectors.{Vector, cross}
use Rattle.path_geometry.specs.declared.motion.Arc.{Arc}
use Rattle.arc_quadrants.specs.declared.walk.Quarter.{Quarter}

-- how many quadrants are entered, by how far the last lies ahead of the first, and by whether the end is ahead of the start
abbrev pub quadrant_count : ℕ → Bool → ℕ
quadrant_count zero ahead = if ahead then 1 else 5
quadrant_count (suc k) ahead = suc k + 1

-- one quarter for each quadrant on the way from s to e
abbrev pub quarter_count : Vector → Vector → ℕ
quarter_count s e = quadrant_count ((end_quadrant e + 4 - begin_quadrant s) % 4) (int_lt (pos 0) (cross s e))

-- a direction of quadrant 0 by the sizes of its parts
abbrev pub sizes : Vector → ℕ × ℕ
sizes p = (unsigned_abs p.u, unsigned_abs p.v)

-- the directions in which the quarter at a place begins and ends: the first is cut at s and the last at e, and an axis has the
-- outer radius as its length
abbrev pub from_at : ℕ → Vector → ℕ → ℕ × ℕ
from_at outer s place = if place == 0 then sizes (turned_back (begin_quadrant s) s) else (outer, 0)

abbrev pub to_at : ℕ → Vector → Vector → ℕ → ℕ × ℕ
to_at outer s e place = if place + 1 == quarter_count s e then sizes (turned_back (end_quadrant e) e) else (0, outer)

-- the quarter at a place, counted from 0
abbrev pub quarter_at : ℕ → Vector → Vector → ℕ → Quarter
quarter_at outer s e place = record { turn = (begin_quadrant s + place) % 4; from = from_at outer s place; to = to_at outer s e place }

-- the quarters of an arc in order
abbrev pub quarters_of : Arc → List Quarter
quarters_of arc = map (quarter_at arc.outer (start_seen arc) (end_seen arc)) (range_with_len 0 (quarter_count (start_seen arc) (end_seen arc)))

-- a direction whose parts are not both 0 and go no farther than this
pub record IsNear (far : ℕ) (d : ℕ × ℕ) : Type 0 where
  pub some : 0 < d.0 + d.1
  pub first : d.0 ≤ far
  pub second : d.1 ≤ far

-- a quarter lies in a quadrant between two directions, which a sound arc has no farther than this
pub record IsFit (quarter : Quarter) : Type 0 where
  pub turn : quarter.turn < 4
  pub from : IsNear 30000000 quarter.from
  pub to : IsNear 30000000 quarter.to
