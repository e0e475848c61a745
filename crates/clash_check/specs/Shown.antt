-- Steps. Of the stretches of a zone those with boxes, one after another.
use Rattle.std.specs.Prelude.{◌≡◌, ℕ, ◌+◌, ◌≤◌, ◌==◌, Bool, List, drop, length, slice_index}
use Rattle.zone_stretches.specs.Ascents.{leading}
use Rattle.zone_stretches.specs.Stretches.{StretchView}

-- a stretch with no boxes
abbrev pub is_bare : StretchView → Bool
is_bare stretch = length stretch.boxes == 0

-- the place of the first from this place on that has boxes
abbrev pub next_shown : List StretchView → ℕ → ℕ
next_shown stretches place = place + leading is_bare (drop place stretches)

-- these are the places so found from each place on
abbrev pub IsNext : List StretchView → List ℕ → Type 0
IsNext stretches next = (length next ≡ length stretches + 1) × ((place : ℕ) → place ≤ length stretches → slice_index next place ≡ next_shown stretches place)
