-- The zones of a job with their stretches, one by one.
use Rattle.std.proofs.Common.{◌≡◌, ◌∙◌, ℕ, zero, suc, ◌<◌, ◌≤◌, List, [], ◌∷◌, drop, length, get_or, slice_get, None, Some, refl, sym, ap, arith}
use Rattle.std.specs.Global.{Global}
use Rattle.std.specs.Prelude.{Vec}
use Rattle.std.proofs.lemmas.List.{get_or-map, length-map}
use Rattle.job_types.specs.Job.{JobView}
use Rattle.job_types.specs.Zones.{zones_in_order}
use Rattle.job_types.specs.declared.job.ZoneLine.{ZoneLine}
use Rattle.zone_stretches.specs.Overlaps.{ZoneTime}
use Rattle.zone_stretches.specs.Stretches.{StretchView}
use Rattle.zone_stretches.specs.Times.{lists_in, times_in, times_from}

abbrev pub time_of : List (List StretchView) → ℕ → ZoneLine → ZoneTime
time_of lists place zone = record { zone = zone; stretches = get_or lists place [] }

-- the zones from a place on: that of the place, if there is one, and those from the next
pub times_at : (zones : List ZoneLine) (lists : List (List StretchView)) (place : ℕ) (zone : ZoneLine) → place < length lists → slice_get zones place ≡ Some zone
    → times_in (drop place zones) (drop place lists) ≡ time_of lists place zone ∷ times_in (drop (suc place) zones) (drop (suc place) lists)
times_at [] lists place zone within found = absurd cc
times_at (z ∷ zones) [] place zone within found = absurd (omega arith)
times_at (z ∷ zones) (l ∷ lists) zero zone within found = let same : z ≡ zone = cc in rw same refl
times_at (z ∷ zones) (l ∷ lists) (suc place) zone within found = times_at zones lists place zone (omega arith) found

pub no_times : (zones : List ZoneLine) (lists : List (List StretchView)) (place : ℕ) → slice_get zones place ≡ None → times_in (drop place zones) lists ≡ []
no_times [] lists place none = by_lists lists place
  where
    by_lists : (lists : List (List StretchView)) (place : ℕ) → times_in (drop place []) lists ≡ []
    by_lists lists zero = refl
    by_lists lists (suc place) = refl
no_times (z ∷ zones) lists zero none = absurd cc
no_times (z ∷ zones) lists (suc place) none = no_times zones lists place none

pub none_later : (zones : List ZoneLine) (place : ℕ) → slice_get zones place ≡ None → slice_get zones (suc place) ≡ None
none_later [] place none = refl
none_later (z ∷ zones) zero none = absurd cc
none_later (z ∷ zones) (suc place) none = none_later zones place none

past_all : (zones : List ZoneLine) (lists : List (List StretchView)) (place : ℕ) → length lists ≤ place → times_in (drop place zones) (drop place lists) ≡ []
past_all zones [] zero far = by_zones zones
  where
    by_zones : (zones : List ZoneLine) → times_in zones [] ≡ []
    by_zones [] = refl
    by_zones (z ∷ zones) = refl
past_all zones [] (suc place) far = by_zones (drop (suc place) zones)
  where
    by_zones : (zones : List ZoneLine) → times_in zones [] ≡ []
    by_zones [] = refl
    by_zones (z ∷ zones) = refl
past_all zones (l ∷ lists) zero far = absurd (omega arith)
past_all [] (l ∷ lists) (suc place) far = refl
past_all (z ∷ zones) (l ∷ lists) (suc place) far = past_all zones lists place (omega arith)

pub no_times_left : (job : JobView) (lists : List (List StretchView)) (place : ℕ) → length lists ≤ place → times_from job lists place ≡ []
no_times_left job lists place far = past_all (zones_in_order job) lists place far

pub within_lists : (lists : List (Vec StretchView Global)) (place : ℕ) → place < length lists → place < length (lists_in lists)
within_lists lists place within = rw (length-map lists (λ (s : Vec StretchView Global). s.items)) within

pub past_lists : (lists : List (Vec StretchView Global)) (place : ℕ) → length lists ≤ place → length (lists_in lists) ≤ place
past_lists lists place far = rw (length-map lists (λ (s : Vec StretchView Global). s.items)) far

-- the stretches of the zone of a place
pub list_at : (lists : List (Vec StretchView Global)) (place : ℕ) (v : Vec StretchView Global) → place < length lists → v ≡ get_or lists place v → get_or (lists_in lists) place [] ≡ v.items
list_at lists place v within is = get_or-map (λ (s : Vec StretchView Global). s.items) lists place v [] within ∙ ap (λ (s : Vec StretchView Global). s.items) (sym is)
