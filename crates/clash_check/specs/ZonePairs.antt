-- Steps. The pairs of zones by their places, and the first two boxes of some of these pairs that meet.
use Rattle.std.specs.Prelude.{ℕ, zero, suc, ◌+◌, List, [], ◌∷◌, ◌++◌, slice_get, slice_index_or, Option}
use Rattle.std.specs.Option.{option_and_then}
use Rattle.clash_check.specs.FirstAnswer.{first_some}
use Rattle.clash_check.specs.Meetings.{Names, first_with_place}
use Rattle.job_types.specs.Zones.{zones_in_order}
use Rattle.zone_stretches.specs.Cases.{Case}
use Rattle.zone_stretches.specs.Stretches.{StretchView}

-- a zone with so many others that stand one after another
abbrev pub pairs_with : ℕ → ℕ → ℕ → List (ℕ × ℕ)
pairs_with place other zero = []
pairs_with place other (suc left) = (place, other) ∷ pairs_with place (other + 1) left

-- each of so many zones, from a place on, with each later one of them
abbrev pub pairs_from : ℕ → ℕ → List (ℕ × ℕ)
pairs_from place zero = []
pairs_from place (suc left) = pairs_with place (place + 1) left ++ pairs_from (place + 1) left

-- the names of the first two boxes of two zones that meet
unfoldable pub first_of_pair : Case → List (List StretchView) → ℕ × ℕ → Option Names
first_of_pair case lists pair =
    option_and_then (λ zone. first_with_place case (record { zone = zone; stretches = slice_index_or lists pair.0 [] }) lists pair.1) (slice_get (zones_in_order case.job) pair.0)

-- of the first of these pairs that has such
abbrev pub first_of_pairs : Case → List (List StretchView) → List (ℕ × ℕ) → Option Names
first_of_pairs case lists pairs = first_some (first_of_pair case lists) pairs
