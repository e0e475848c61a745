-- The rows of each two zones are those of each two of different groups.
use Rattle.std.proofs.Common.{◌≡◌, ◌∙◌, ℕ, ◌==◌, not, cond, Bool, true, false, List, [], ◌∷◌, ◌++◌, map, filter, length, refl, sym, ap, append_assoc}
use Rattle.std.specs.List.{flat_map, sum_by}
use Rattle.std.proofs.lemmas.List.Concat.{flat_map-append}
use Rattle.clash_check.proofs.CountLaws.{count_zones}
use Rattle.clash_check.specs.Counts.{capped}
use Rattle.clash_check.specs.NumberSteps.{number_with, row_with}
use Rattle.clash_check.specs.PairCounts.{count_against, count_of_zones}
use Rattle.clash_check.specs.PairNumbers.{number_of, numbers_of, some_number}
use Rattle.clash_check.specs.declared.numbers.PairNumber.{PairNumber}
use Rattle.job_types.specs.Job.{JobView}
use Rattle.zone_stretches.specs.Overlaps.{Order, ZoneTime, pairs_by_group, pairs_of_zones, zone_times}
use Rattle.zone_stretches.specs.Stretches.{StretchesView}
use Rattle.zone_stretches.specs.TimedZones.{TimedZoneView, each_two}

-- ---- by groups

rows_of : Order → ZoneTime × ZoneTime → List PairNumber
rows_of before pair = some_number (number_of before pair)

row_of : (before : Order) (one two : TimedZoneView) → cond (not (one.time.zone.group == two.time.zone.group)) (rows_of before (one.time, two.time)) [] ≡ row_with before (one, two)
unfolding rows_of number_of number_with count_of_zones
row_of before one two = by_group (one.time.zone.group == two.time.zone.group)
  where
    row : ℕ → PairNumber
    row n = record { zones = (one.time.zone.zone, two.time.zone.zone); count = capped n }

    by_group : (b : Bool) → cond (not b) (some_number (row (length (pairs_of_zones before one.time two.time)))) []
        ≡ some_number (row (cond b 0 (sum_by (count_against before two.time.stretches) one.time.stretches)))
    by_group true = refl
    by_group false = ap (λ (n : ℕ). some_number (row n)) (count_zones before one.time two.time)

rows_are : (before : Order) (zones : List TimedZoneView) → flat_map (rows_of before) (pairs_by_group (map (λ (zone : TimedZoneView). zone.time) zones)) ≡ flat_map (row_with before) (each_two zones)
rows_are before [] = refl
rows_are before (one ∷ others) =
    flat_map-append (rows_of before) (map (λ (two : ZoneTime). (one.time, two)) (filter (λ two. not (one.time.zone.group == two.zone.group)) (map (λ (zone : TimedZoneView). zone.time) others))) (pairs_by_group (map (λ (zone : TimedZoneView). zone.time) others))
    ∙ ap (λ (rows : List PairNumber). rows ++ flat_map (rows_of before) (pairs_by_group (map (λ (zone : TimedZoneView). zone.time) others))) (with_each others)
    ∙ ap (λ (rows : List PairNumber). flat_map (row_with before) (map (λ two. (one, two)) others) ++ rows) (rows_are before others)
    ∙ sym (flat_map-append (row_with before) (map (λ (two : TimedZoneView). (one, two)) others) (each_two others))
  where
    kept : (b : Bool) (two : ZoneTime) (rest : List ZoneTime) → flat_map (rows_of before) (map (λ (two : ZoneTime). (one.time, two)) (cond b (two ∷ rest) rest))
        ≡ cond b (rows_of before (one.time, two)) [] ++ flat_map (rows_of before) (map (λ (two : ZoneTime). (one.time, two)) rest)
    kept true two rest = refl
    kept false two rest = refl

    with_each : (others : List TimedZoneView) → flat_map (rows_of before) (map (λ (two : ZoneTime). (one.time, two)) (filter (λ two. not (one.time.zone.group == two.zone.group)) (map (λ (zone : TimedZoneView). zone.time) others)))
        ≡ flat_map (row_with before) (map (λ (two : TimedZoneView). (one, two)) others)
    with_each [] = refl
    with_each (two ∷ others) =
        kept (not (one.time.zone.group == two.time.zone.group)) two.time (filter (λ two. not (one.time.zone.group == two.zone.group)) (map (λ (zone : TimedZoneView). zone.time) others))
        ∙ ap (λ (rows : List PairNumber). rows ++ flat_map (rows_of before) (map (λ (two : ZoneTime). (one.time, two)) (filter (λ two. not (one.time.zone.group == two.zone.group)) (map (λ (zone : TimedZoneView). zone.time) others)))) (row_of before one two)
        ∙ ap (λ (rows : List PairNumber). row_with before (one, two) ++ rows) (with_each others)

pub numbers_are : (before : Order) (job : JobView) (stretches : StretchesView) (zones : List TimedZoneView) → map (λ (zone : TimedZoneView). zone.time) zones ≡ zone_times job stretches
    → flat_map (row_with before) (each_two zones) ≡ numbers_of before job stretches
unfolding numbers_of rows_of
numbers_are before job stretches zones times = sym (ap (λ (ts : List ZoneTime). flat_map (rows_of before) (pairs_by_group ts)) (sym times) ∙ rows_are before zones)

-- what is still to be added, in two parts
pub added_part : (rows more part rest later all : List PairNumber) → more ≡ rows ++ part → rest ≡ part ++ later → rows ++ rest ≡ all → more ++ later ≡ all
added_part rows more part rest later all added split so_far =
    ap (λ (items : List PairNumber). items ++ later) added ∙ append_assoc rows part later ∙ ap (λ (items : List PairNumber). rows ++ items) (sym split) ∙ so_far
