-- What is counted and what is found first in the zones of a job, one by one.
use Rattle.std.proofs.Common.{◌≡◌, ◌∙◌, ℕ, zero, suc, ◌+◌, ◌<◌, ◌≤◌, ◌^◌, ◌-◌, List, [], ◌∷◌, drop, length, slice_get, Option, None, Some, option_and_then, min, refl, sym, ap, zero-add, arith}
use Rattle.std.specs.List.{sum_by}
use Rattle.std.specs.Option.{option_or}
use Rattle.clash_check.specs.FirstAnswer.{first_some}
use Rattle.clash_check.specs.Meetings.{first_of_zones, first_in_times, first_with_place, first_from_place}
use Rattle.clash_check.specs.Counts.{capped}
use Rattle.job_types.specs.Zones.{zones_in_order}
use Rattle.job_types.specs.declared.job.ZoneLine.{ZoneLine}
use Rattle.zone_stretches.proofs.TimeLaws.{no_times, none_later, time_of, times_at}
use Rattle.zone_stretches.specs.Cases.{Case}
use Rattle.zone_stretches.specs.Overlaps.{ZoneTime}
use Rattle.zone_stretches.specs.Stretches.{StretchView}
use Rattle.zone_stretches.specs.Times.{times_from}

-- ---- counts

-- the count so far, and what is still to be counted
abbrev pub IsCounted : ℕ → ℕ → ℕ → Type 0
IsCounted count rest total = (count < 2 ^ 64) × (capped (count + rest) ≡ capped total)

pub counted_none : (total : ℕ) → IsCounted 0 total total
counted_none total = (omega arith, ap capped (zero-add total))

pub counted_more : (count next one one' rest rest' total : ℕ) → one' ≡ capped one → next ≡ min (count + one') (2 ^ 64 - 1) → rest ≡ one + rest' → IsCounted count rest total → IsCounted next rest' total
counted_more count next one one' rest rest' total one_is next_is all so_far = let same = so_far.1 in (omega (arith, next_is), omega (arith, one_is, next_is, all, same))

pub counted_all : (count rest total : ℕ) → rest ≡ 0 → IsCounted count rest total → count ≡ capped total
counted_all count rest total none so_far = let fits = so_far.0 in let same = so_far.1 in omega (arith, none, fits, same)

pub sum_past : {X : Type 0} (f : X → ℕ) (xs : List X) (i : ℕ) → length xs ≤ i → sum_by f (drop i xs) ≡ 0
sum_past f [] zero far = refl
sum_past f [] (suc i) far = refl
sum_past f (x ∷ xs) zero far = absurd (omega arith)
sum_past f (x ∷ xs) (suc i) far = sum_past f xs i (omega arith)

-- ---- first answers

pub first_with_left : (case : Case) (one : ZoneTime) (lists : List (List StretchView)) (place next : ℕ) → next ≡ place + 1 → place < length lists
    → first_some (first_of_zones case one) (times_from case.job lists place)
    ≡ option_or (first_with_place case one lists place) (first_some (first_of_zones case one) (times_from case.job lists next))
first_with_left case one lists place next is_next within = by_zone (slice_get (zones_in_order case.job) place) refl
  where
    next_is : next ≡ suc place
    next_is = omega (arith, is_next)

    by_zone : (o : Option ZoneLine) → slice_get (zones_in_order case.job) place ≡ o
        → first_some (first_of_zones case one) (times_from case.job lists place)
        ≡ option_or (option_and_then (λ zone. first_of_zones case one (time_of lists place zone)) o) (first_some (first_of_zones case one) (times_from case.job lists next))
    by_zone None is =
        rw (next_is, no_times (zones_in_order case.job) (drop place lists) place is, no_times (zones_in_order case.job) (drop (suc place) lists) (suc place) (none_later (zones_in_order case.job) place is)) refl
    by_zone (Some zone) is =
        ap (first_some (first_of_zones case one)) (times_at (zones_in_order case.job) lists place zone within is)
        ∙ ap (λ (n : ℕ). option_or (first_of_zones case one (time_of lists place zone)) (first_some (first_of_zones case one) (times_from case.job lists n))) (sym next_is)

pub first_from_left : (case : Case) (lists : List (List StretchView)) (place next : ℕ) → next ≡ place + 1 → place < length lists
    → first_in_times case (times_from case.job lists place) ≡ option_or (first_from_place case lists place) (first_in_times case (times_from case.job lists next))
first_from_left case lists place next is_next within = by_zone (slice_get (zones_in_order case.job) place) refl
  where
    next_is : next ≡ suc place
    next_is = omega (arith, is_next)

    by_zone : (o : Option ZoneLine) → slice_get (zones_in_order case.job) place ≡ o
        → first_in_times case (times_from case.job lists place)
        ≡ option_or (option_and_then (λ zone. first_some (first_of_zones case (time_of lists place zone)) (times_from case.job lists (place + 1))) o) (first_in_times case (times_from case.job lists next))
    by_zone None is =
        rw (next_is, no_times (zones_in_order case.job) (drop place lists) place is, no_times (zones_in_order case.job) (drop (suc place) lists) (suc place) (none_later (zones_in_order case.job) place is)) refl
    by_zone (Some zone) is =
        ap (first_in_times case) (times_at (zones_in_order case.job) lists place zone within is)
        ∙ ap (λ (n : ℕ). option_or (first_some (first_of_zones case (time_of lists place zone)) (times_from case.job lists n)) (first_in_times case (times_from case.job lists n))) (sym next_is)
        ∙ ap (λ (n : ℕ). option_or (first_some (first_of_zones case (time_of lists place zone)) (times_from case.job lists n)) (first_in_times case (times_from case.job lists next))) is_next
