-- Meaning. How far a picture reaches along a direction. The origin is always in it.
use Rattle.std.specs.Prelude.{ℕ, ℤ, pos, not, Bool, List, fold}
use Rattle.std.specs.Int.{int_max, int_min}
use Rattle.std.specs.List.{list_any}
use Rattle.std.specs.Ordering.{int_eq}
use Rattle.explain_views.specs.declared.extents.Extent.{Extent}
use Rattle.explain_views.specs.declared.shapes.Picture.{Picture}
use Rattle.explain_views.specs.declared.shapes.Tile.{Tile}
use Rattle.explain_views.specs.declared.shapes.Track.{Track}
use Rattle.explain_views.specs.Marks.{along, minus}

-- how long it is
abbrev pub length_of : Extent → ℤ
length_of extent = minus extent.high extent.low

-- it reaches to two places too
abbrev pub reach : Extent → ℤ → ℤ → Extent
reach extent low high = record { low = int_min (int_min extent.low low) high; high = int_max (int_max extent.high low) high }

-- to both bounds of a box, and to both ends of a way
abbrev pub reach_tile : ℕ → Extent → Tile → Extent
reach_tile direction extent tile = reach extent (along tile.space.lo direction) (along tile.space.hi direction)

abbrev pub reach_track : ℕ → Extent → Track → Extent
reach_track direction extent track = reach extent (along track.from direction) (along track.to direction)

-- the origin alone
abbrev pub origin : Extent
origin = record { low = pos 0; high = pos 0 }

abbrev pub extent_of_tiles : List Tile → ℕ → Extent
extent_of_tiles tiles direction = fold (reach_tile direction) origin tiles

abbrev pub reach_tracks : ℕ → Extent → List Track → Extent
reach_tracks direction extent tracks = fold (reach_track direction) extent tracks

-- how far the boxes and the ways of a picture reach
unfoldable pub extent_of : Picture → ℕ → Extent
extent_of picture direction = reach_tracks direction (extent_of_tiles picture.tiles.items direction) picture.tracks.items

-- a way has its ends at two places of a direction
abbrev pub moves : ℕ → Track → Bool
moves direction track = not (int_eq (along track.from direction) (along track.to direction))

-- any way of a picture has
unfoldable pub has_motion : Picture → ℕ → Bool
has_motion picture direction = list_any (moves direction) picture.tracks.items
