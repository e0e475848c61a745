-- The pairs of zones, one after another, are each zone with each later one.
use Rattle.std.proofs.Common.{◌≡◌, ◌∙◌, ℕ, zero, suc, ◌+◌, List, [], length, get_or, slice_get, Option, None, Some, option_and_then, refl, sym, ap, arith}
use Rattle.std.proofs.lemmas.List.{length-map}
use Rattle.std.specs.Global.{Global}
use Rattle.std.specs.Prelude.{Vec}
use Rattle.clash_check.proofs.FirstLaws.{first_some-append}
use Rattle.clash_check.proofs.TimeLaws.{first_from_left, first_with_left}
use Rattle.clash_check.specs.FirstAnswer.{first_some}
use Rattle.clash_check.specs.Meetings.{first_from_place, first_in_times, first_of_zones}
use Rattle.clash_check.specs.ZonePairs.{first_of_pair, first_of_pairs, pairs_from, pairs_with}
use Rattle.job_types.specs.Zones.{zones_in_order}
use Rattle.job_types.specs.declared.job.ZoneLine.{ZoneLine}
use Rattle.zone_stretches.proofs.TimeLaws.{no_times_left}
use Rattle.zone_stretches.specs.Cases.{Case}
use Rattle.zone_stretches.specs.Overlaps.{ZoneTime}
use Rattle.zone_stretches.specs.Stretches.{StretchView}
use Rattle.zone_stretches.specs.Times.{lists_in, times_from}

module _ (case : Case) (lists : List (List StretchView)) where
  abbrev time_at : ℕ → ZoneLine → ZoneTime
  time_at place zone = record { zone = zone; stretches = get_or lists place [] }

  -- the pairs of a zone that there is
  of_zone : (place : ℕ) (zone : ZoneLine) → slice_get (zones_in_order case.job) place ≡ Some zone → (left other : ℕ) → other + left ≡ length lists
      → first_of_pairs case lists (pairs_with place other left) ≡ first_some (first_of_zones case (time_at place zone)) (times_from case.job lists other)
  unfolding first_of_pair
  of_zone place zone is zero other all = sym (ap (first_some (first_of_zones case (time_at place zone))) (no_times_left case.job lists other (omega (arith, all))))
  of_zone place zone is (suc left) other all =
      rw (is, of_zone place zone is left (other + 1) (omega (arith, all))) (sym (first_with_left case (time_at place zone) lists other (other + 1) refl (omega (arith, all))))

  -- of none that there is
  of_none : (place : ℕ) → slice_get (zones_in_order case.job) place ≡ None → (left other : ℕ) → first_of_pairs case lists (pairs_with place other left) ≡ None
  unfolding first_of_pair
  of_none place is zero other = refl
  of_none place is (suc left) other = rw (is) (of_none place is left (other + 1))

  of_place : (place left : ℕ) → (place + 1) + left ≡ length lists → first_of_pairs case lists (pairs_with place (place + 1) left) ≡ first_from_place case lists place
  of_place place left all = by_zone (slice_get (zones_in_order case.job) place) refl
    where
      by_zone : (o : Option ZoneLine) → slice_get (zones_in_order case.job) place ≡ o
          → first_of_pairs case lists (pairs_with place (place + 1) left) ≡ option_and_then (λ zone. first_some (first_of_zones case (time_at place zone)) (times_from case.job lists (place + 1))) o
      by_zone None is = of_none place is left (place + 1)
      by_zone (Some zone) is = of_zone place zone is left (place + 1) all

  pairs_are : (left place : ℕ) → place + left ≡ length lists → first_of_pairs case lists (pairs_from place left) ≡ first_in_times case (times_from case.job lists place)
  pairs_are zero place all = sym (ap (first_in_times case) (no_times_left case.job lists place (omega (arith, all))))
  pairs_are (suc left) place all =
      first_some-append (first_of_pair case lists) (pairs_with place (place + 1) left) (pairs_from (place + 1) left)
      ∙ rw (of_place place left (omega (arith, all)), pairs_are left (place + 1) (omega (arith, all))) (sym (first_from_left case lists place (place + 1) refl (omega (arith, all))))

  -- of all zones
  all_pairs_are : (count : ℕ) → count ≡ length lists → first_of_pairs case lists (pairs_from 0 count) ≡ first_in_times case (times_from case.job lists 0)
  all_pairs_are count all = pairs_are count 0 (omega (arith, all))

-- of all zones whose stretches stand in a list
pub all_listed : (case : Case) (lists : List (Vec StretchView Global)) (stretches : List (List StretchView)) → lists_in lists ≡ stretches
    → first_of_pairs case (lists_in lists) (pairs_from 0 (length lists)) ≡ first_in_times case (times_from case.job stretches 0)
all_listed case lists stretches same =
    all_pairs_are case (lists_in lists) (length lists) (sym (length-map lists (λ (s : Vec StretchView Global). s.items))) ∙ ap (λ (ls : List (List StretchView)). first_in_times case (times_from case.job ls 0)) same
