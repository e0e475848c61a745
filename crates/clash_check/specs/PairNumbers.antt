-- Meaning. How many boxes of each two zones are compared.
use Rattle.std.specs.Prelude.{ℕ, ◌-◌, ◌^◌, ◌==◌, if◌then◌else◌, List, [], ◌∷◌, length}
use Rattle.std.specs.List.{flat_map}
use Rattle.std.specs.List.Sorted.{IsNonDecreasingBy, IsPermutation, IsStableByKey}
use Rattle.std.specs.Ordering.{nat_cmp}
use Rattle.clash_check.specs.Counts.{capped}
use Rattle.clash_check.specs.declared.numbers.PairNumber.{PairNumber}
use Rattle.job_types.specs.Job.{JobView}
use Rattle.zone_stretches.specs.Overlaps.{Order, ZoneTime, pairs_by_group, pairs_of_zones, zone_times}
use Rattle.zone_stretches.specs.Stretches.{StretchesView}

-- how many of two zones
unfoldable pub number_of : Order → ZoneTime × ZoneTime → PairNumber
number_of before pair = record { zones = (pair.0.zone.zone, pair.1.zone.zone); count = capped (length (pairs_of_zones before pair.0 pair.1)) }

-- a row where there are some
abbrev pub some_number : PairNumber → List PairNumber
some_number row = if row.count == 0 then [] else row ∷ []

-- of each zone with each later one of another group
unfoldable pub numbers_of : Order → JobView → StretchesView → List PairNumber
numbers_of before job stretches = flat_map (λ pair. some_number (number_of before pair)) (pairs_by_group (zone_times job stretches))

-- what a count lacks of the greatest
abbrev pub lack_of : PairNumber → ℕ
lack_of row = 2 ^ 64 - 1 - row.count

-- the same rows, the one with the most first; those with as many stay in their order
pub record AreByCount (numbers rows : List PairNumber) : Type 0 where
  pub same : IsPermutation numbers rows
  pub falls : IsNonDecreasingBy lack_of rows
  pub ties : IsStableByKey lack_of nat_cmp numbers rows
