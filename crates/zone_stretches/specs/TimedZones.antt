-- Steps. The zones of a job with their stretches, and each two of them, one pair after another.
use Rattle.std.specs.Prelude.{◌≡◌, ℕ, suc, Bool, true, false, List, [], ◌∷◌, ◌++◌, drop, map, slice_get, slice_index_or, Option, None, Some}
use Rattle.job_types.specs.declared.job.ZoneLine.{ZoneLine}
use Rattle.zone_stretches.specs.Ascents.{IsTimed, is_chain}
use Rattle.zone_stretches.specs.Overlaps.{Order, ZoneTime}
use Rattle.zone_stretches.specs.Stretches.{StretchView}

-- a zone with its stretches, and whether each of these is known to be over as the next begins
pub record TimedZoneView : Type 0 where
  pub time : ZoneTime
  pub ascends : Bool

-- zones with their stretches, as far as there are both, each with the mark of its place, from a place on
abbrev pub timed_from : List ZoneLine → List (List StretchView) → List Bool → ℕ → List TimedZoneView
timed_from [] lists marks place = []
timed_from (zone ∷ zones) [] marks place = []
timed_from (zone ∷ zones) (stretches ∷ lists) marks place =
    record { time = record { zone = zone; stretches = stretches }; ascends = slice_index_or marks place false } ∷ timed_from zones lists marks (suc place)

-- a zone is marked only where each of its stretches is over as the next begins
abbrev pub IsMarked : Order → TimedZoneView → Type 0
IsMarked before zone = zone.ascends ≡ true → is_chain before zone.time.stretches ≡ true

-- the stretches of two zones begin and end with events whose order the test tells, and each zone is marked only where it ascends
pub record AreTimed (before : Order) (pair : TimedZoneView × TimedZoneView) : Type 0 where
  pub timed : IsTimed before (pair.0.time.stretches ∷ (pair.1.time.stretches ∷ []))
  pub left : IsMarked before pair.0
  pub right : IsMarked before pair.1

-- ---- each two of a list

-- each element with each later one
abbrev pub each_two : {X : Type 0} → List X → List (X × X)
each_two [] = []
each_two (x ∷ xs) = map (λ y. (x, y)) xs ++ each_two xs

-- an element, if there is one, with some others, and then each two of those that are left
abbrev pub two_from : {X : Type 0} → Option X → List X → List X → List (X × X)
two_from None others rest = []
two_from (Some x) others rest = map (λ y. (x, y)) others ++ each_two rest

-- the pairs from that of these two places on
abbrev pub pairs_left : {X : Type 0} → List X → ℕ → ℕ → List (X × X)
pairs_left xs left right = two_from (slice_get xs left) (drop right xs) (drop (suc left) xs)
