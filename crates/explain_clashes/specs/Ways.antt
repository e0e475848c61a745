-- Meaning. In which direction axes can part two zones that meet, and how much room they need there.
use Rattle.std.specs.Prelude.{◌≡◌, ℕ, ◌+◌, ◌<◌, ◌==◌, ◌||◌, ◌≤ℤ◌, ◌<ℤ◌, Bool, true, false, not, slice_get, is_some, find}
use Rattle.std.specs.Option.{option_map_or}
use Rattle.explain_reach.specs.Reaches.{reach_along}
use Rattle.explain_reach.specs.declared.ways.Way.{Way}
use Rattle.job_types.specs.Job.{JobView}
use Rattle.job_types.specs.declared.job.Side.{Side}
use Rattle.swept_boxes.specs.declared.Box3.{Box3}
use Rattle.explain_places.specs.declared.place.Meeting.{Meeting}
use Rattle.explain_places.specs.declared.place.Place.{Place}

-- an axis carries this side of a zone
abbrev pub has_carrier : Side → Bool
has_carrier side = is_some side.carrier

-- an axis carries a zone in this direction, by its line
unfoldable pub is_carried : JobView → Place → ℕ → Bool
is_carried job place direction =
    option_map_or (λ zone. option_map_or has_carrier (slice_get zone.sides direction) false)
    (find (λ zone. zone.zone == place.name.zone) job.zones) false

-- an axis carries one of two zones in this direction
unfoldable pub is_either_carried : JobView → Meeting → ℕ → Bool
is_either_carried job met direction = is_carried job met.left direction || is_carried job met.right direction

-- axes can give room in this direction; where they carry neither zone in any, each direction counts
unfoldable pub gives_room : JobView → Meeting → ℕ → Bool
gives_room job met direction =
    is_either_carried job met direction
    || not (is_either_carried job met 0 || (is_either_carried job met 1 || is_either_carried job met 2))

-- of the directions below a number that count the first in which two boxes reach into each other the least, and how far they do
pub record IsLeastWay (counts : ℕ → Bool) (left right : Box3) (below : ℕ) (way : Way) : Type 0 where
  pub in_space : way.direction < below
  pub does_count : counts way.direction ≡ true
  pub shift : way.shift ≡ reach_along left right way.direction
  pub least : (other : ℕ) → other < below → counts other ≡ true → way.shift ≤ℤ reach_along left right other
  pub first : (other : ℕ) → other < way.direction → counts other ≡ true → way.shift <ℤ reach_along left right other
