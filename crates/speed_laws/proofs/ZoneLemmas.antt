-- A zone at a state lies in the zone box of bounds that hold its axes.
use Rattle.std.proofs.Common.{◌≡◌, ℕ, zero, suc, ℤ, pos, ◌+ℤ◌, ◌-ℤ◌, ◌*ℤ◌, ◌≤ℤ◌, ◌<◌, Bool, true, false, ◌||◌, List, [], ◌∷◌, map, length, get_or, Option, None, Some, slice_get, refl, sym, ap, subst, arith}
use Rattle.std.proofs.lemmas.Bool.{eq-eqb}
use Rattle.std.proofs.lemmas.Int.{ints}
use Rattle.std.specs.List.{list_any}
use Rattle.number_laws.proofs.Integers.{nonneg-pos}
use Rattle.number_laws.proofs.Orders.{some, given, both, by, all_of, refute}
use Rattle.number_laws.proofs.Ring.{num, var, plus, minus, times}
use Rattle.number_laws.specs.Fractions.{Fraction, IsAtMost, IsIn}
use Rattle.swept_boxes.specs.Boxes.{SpacePoint, IsInBox}
use Rattle.job_types.specs.declared.job.ZoneLine.{ZoneLine}
use Rattle.speed_laws.specs.Safety.{IsInZone, bound_at}
use Rattle.zone_stretches.specs.ZoneBoxes.{carried_low, carried_high, side_low, side_high, box_of, zone_box}
use Rattle.job_types.specs.Zones.{is_carrier, has_axis}

-- (bound * u + t) * m ≤ x * u and low * u ≤ t give (bound + low) * m ≤ x
above_plus : (bound low t x : ℤ) (u m : ℕ) → 0 < u → (low *ℤ pos u) ≤ℤ t → (((bound *ℤ pos u) +ℤ t) *ℤ pos m) ≤ℤ (x *ℤ pos u) → ((bound +ℤ low) *ℤ pos m) ≤ℤ x
above_plus bound low t x u m some_u is_in is_above =
    let b = var 0 in
    let l = var 1 in
    let vt = var 2 in
    let vx = var 3 in
    let vu = var 4 in
    let vm = var 5 in
    let h1 : pos 0 ≤ℤ (t -ℤ (low *ℤ pos u)) = omega (arith, ints) in
    let h2 : pos 0 ≤ℤ ((x *ℤ pos u) -ℤ (((bound *ℤ pos u) +ℤ t) *ℤ pos m)) = omega (arith, ints) in
    let h3 : pos 0 ≤ℤ (pos u -ℤ pos 1) = omega (arith, ints) in
    refute (bound ∷ low ∷ t ∷ x ∷ pos u ∷ pos m ∷ [])
    (minus vt (times l vu) ∷ minus (times vx vu) (times (plus (times b vu) vt) vm) ∷ minus vu (num (pos 1)) ∷ vm ∷ []) []
    (all_of (by (both (given 3) (some 1)) (given 0) ∷ given 2 ∷ by (given 4) (given 1) ∷ given 3 ∷ []))
    (times (plus b l) vm) vx (h1, (h2, (h3, (nonneg-pos m, tt)))) tt tt

-- (bound * u - t) * m ≤ x * u and t ≤ high * u give (bound - high) * m ≤ x
above_minus : (bound high t x : ℤ) (u m : ℕ) → 0 < u → t ≤ℤ (high *ℤ pos u) → (((bound *ℤ pos u) -ℤ t) *ℤ pos m) ≤ℤ (x *ℤ pos u) → ((bound -ℤ high) *ℤ pos m) ≤ℤ x
above_minus bound high t x u m some_u is_in is_above =
    let b = var 0 in
    let h = var 1 in
    let vt = var 2 in
    let vx = var 3 in
    let vu = var 4 in
    let vm = var 5 in
    let h1 : pos 0 ≤ℤ ((high *ℤ pos u) -ℤ t) = omega (arith, ints) in
    let h2 : pos 0 ≤ℤ ((x *ℤ pos u) -ℤ (((bound *ℤ pos u) -ℤ t) *ℤ pos m)) = omega (arith, ints) in
    let h3 : pos 0 ≤ℤ (pos u -ℤ pos 1) = omega (arith, ints) in
    refute (bound ∷ high ∷ t ∷ x ∷ pos u ∷ pos m ∷ [])
    (minus (times h vu) vt ∷ minus (times vx vu) (times (minus (times b vu) vt) vm) ∷ minus vu (num (pos 1)) ∷ vm ∷ []) []
    (all_of (by (both (given 3) (some 1)) (given 0) ∷ given 2 ∷ by (given 4) (given 1) ∷ given 3 ∷ []))
    (times (minus b h) vm) vx (h1, (h2, (h3, (nonneg-pos m, tt)))) tt tt

-- the same from above
below_plus : (bound high t x : ℤ) (u m : ℕ) → 0 < u → t ≤ℤ (high *ℤ pos u) → (x *ℤ pos u) ≤ℤ (((bound *ℤ pos u) +ℤ t) *ℤ pos m) → x ≤ℤ ((bound +ℤ high) *ℤ pos m)
below_plus bound high t x u m some_u is_in is_below =
    let b = var 0 in
    let h = var 1 in
    let vt = var 2 in
    let vx = var 3 in
    let vu = var 4 in
    let vm = var 5 in
    let h1 : pos 0 ≤ℤ ((high *ℤ pos u) -ℤ t) = omega (arith, ints) in
    let h2 : pos 0 ≤ℤ ((((bound *ℤ pos u) +ℤ t) *ℤ pos m) -ℤ (x *ℤ pos u)) = omega (arith, ints) in
    let h3 : pos 0 ≤ℤ (pos u -ℤ pos 1) = omega (arith, ints) in
    refute (bound ∷ high ∷ t ∷ x ∷ pos u ∷ pos m ∷ [])
    (minus (times h vu) vt ∷ minus (times (plus (times b vu) vt) vm) (times vx vu) ∷ minus vu (num (pos 1)) ∷ vm ∷ []) []
    (all_of (by (both (given 3) (some 1)) (given 0) ∷ given 2 ∷ by (given 4) (given 1) ∷ given 3 ∷ []))
    vx (times (plus b h) vm) (h1, (h2, (h3, (nonneg-pos m, tt)))) tt tt

below_minus : (bound low t x : ℤ) (u m : ℕ) → 0 < u → (low *ℤ pos u) ≤ℤ t → (x *ℤ pos u) ≤ℤ (((bound *ℤ pos u) -ℤ t) *ℤ pos m) → x ≤ℤ ((bound -ℤ low) *ℤ pos m)
below_minus bound low t x u m some_u is_in is_below =
    let b = var 0 in
    let l = var 1 in
    let vt = var 2 in
    let vx = var 3 in
    let vu = var 4 in
    let vm = var 5 in
    let h1 : pos 0 ≤ℤ (t -ℤ (low *ℤ pos u)) = omega (arith, ints) in
    let h2 : pos 0 ≤ℤ ((((bound *ℤ pos u) -ℤ t) *ℤ pos m) -ℤ (x *ℤ pos u)) = omega (arith, ints) in
    let h3 : pos 0 ≤ℤ (pos u -ℤ pos 1) = omega (arith, ints) in
    refute (bound ∷ low ∷ t ∷ x ∷ pos u ∷ pos m ∷ [])
    (minus vt (times l vu) ∷ minus (times (minus (times b vu) vt) vm) (times vx vu) ∷ minus vu (num (pos 1)) ∷ vm ∷ []) []
    (all_of (by (both (given 3) (some 1)) (given 0) ∷ given 2 ∷ by (given 4) (given 1) ∷ given 3 ∷ []))
    vx (times (minus b l) vm) (h1, (h2, (h3, (nonneg-pos m, tt)))) tt tt

-- ---- a side

-- the zone's axes are at fractions within these bounds
abbrev pub FractionsWithin : ZoneLine → (ℕ → ℤ) → (ℕ → ℤ) → (ℕ → Fraction) → Type 0
FractionsWithin zone low high position = (axis : ℕ) → has_axis zone axis ≡ true → (0 < (position axis).under) × IsIn (low axis) (high axis) (position axis).top (position axis).under

module _ (zone : ZoneLine) (low high : ℕ → ℤ) (position : ℕ → Fraction) (within : FractionsWithin zone low high position) where
  -- the zone has the axis that carries a side
  abbrev CarriesOf : Option (ℕ × Bool) → Type 0
  CarriesOf carrier = (axis : ℕ) → is_carrier axis carrier ≡ true → has_axis zone axis ≡ true

  is_above : (carrier : Option (ℕ × Bool)) (bound x : ℤ) (m : ℕ) → CarriesOf carrier → IsAtMost (bound_at position carrier bound) (record { top = x; under = m })
      → (carried_low carrier bound low high *ℤ pos m) ≤ℤ x
  is_above None bound x m has is = omega (arith, ints)
  is_above (Some (axis, false)) bound x m has is =
      let here = within axis (has axis (eq-eqb axis axis refl)) in
      above_plus bound (low axis) (position axis).top x (position axis).under m here.0 here.1.above is
  is_above (Some (axis, true)) bound x m has is =
      let here = within axis (has axis (eq-eqb axis axis refl)) in
      above_minus bound (high axis) (position axis).top x (position axis).under m here.0 here.1.below is

  is_below : (carrier : Option (ℕ × Bool)) (bound x : ℤ) (m : ℕ) → CarriesOf carrier → IsAtMost (record { top = x; under = m }) (bound_at position carrier bound)
      → x ≤ℤ (carried_high carrier bound low high *ℤ pos m)
  is_below None bound x m has is = omega (arith, ints)
  is_below (Some (axis, false)) bound x m has is =
      let here = within axis (has axis (eq-eqb axis axis refl)) in
      below_plus bound (high axis) (position axis).top x (position axis).under m here.0 here.1.below is
  is_below (Some (axis, true)) bound x m has is =
      let here = within axis (has axis (eq-eqb axis axis refl)) in
      below_minus bound (low axis) (position axis).top x (position axis).under m here.0 here.1.above is

-- ---- the zone

pub some_at : {X : Type 0} (xs : List X) (i : ℕ) → i < length xs → (x : X) × (slice_get xs i ≡ Some x)
some_at [] i within = absurd (omega arith)
some_at (x ∷ xs) zero within = (x, refl)
some_at (x ∷ xs) (suc i) within = some_at xs i (omega arith)

get_or-map_at : {X Y : Type 0} (f : X → Y) (xs : List X) (i : ℕ) (x : X) (d : Y) → slice_get xs i ≡ Some x → get_or (map f xs) i d ≡ f x
get_or-map_at f [] i x d is = absurd cc
get_or-map_at f (y ∷ ys) zero x d is = let same : y ≡ x = cc in ap f same
get_or-map_at f (y ∷ ys) (suc i) x d is = get_or-map_at f ys i x d is

any_at : {X : Type 0} (test : X → Bool) (xs : List X) (i : ℕ) (x : X) → slice_get xs i ≡ Some x → test x ≡ true → list_any test xs ≡ true
any_at test [] i x is passes = absurd cc
any_at test (y ∷ ys) zero x is passes = let same : y ≡ x = cc in rw (same, passes) refl
any_at test (y ∷ ys) (suc i) x is passes = later (test y) (any_at test ys i x is passes)
  where
    later : (b : Bool) → list_any test ys ≡ true → (b || list_any test ys) ≡ true
    later true e = refl
    later false e = e

-- a point of space in the zone is in the zone box of bounds that hold the zone's axes
pub in_zone_box : (margin : ℤ) (zone : ZoneLine) (low high : ℕ → ℤ) (position : ℕ → Fraction) → length zone.sides ≡ 3 → FractionsWithin zone low high position
    → (point : SpacePoint) → IsInZone margin position zone point → IsInBox (zone_box margin zone low high) point
unfolding box_of side_low side_high has_axis
in_zone_box margin zone low high position three within point is = record {
  fraction = is.fraction;
  above = λ direction in_space. let at = some_at zone.sides direction (omega arith) in
      subst (λ (b : ℤ). (b *ℤ pos point.under) ≤ℤ point.top direction) (sym (get_or-map_at (side_low margin low high) zone.sides direction at.0 (pos 0) at.1))
      (is_above zone low high position within at.0.carrier (at.0.lo -ℤ margin) (point.top direction) point.under
      (λ axis carries. any_at (λ side. is_carrier axis side.carrier) zone.sides direction at.0 at.1 carries) (is.above direction at.0 at.1));
  below = λ direction in_space. let at = some_at zone.sides direction (omega arith) in
      subst (λ (b : ℤ). point.top direction ≤ℤ (b *ℤ pos point.under)) (sym (get_or-map_at (side_high margin low high) zone.sides direction at.0 (pos 0) at.1))
      (is_below zone low high position within at.0.carrier (at.0.hi +ℤ margin) (point.top direction) point.under
      (λ axis carries. any_at (λ side. is_carrier axis side.carrier) zone.sides direction at.0 at.1 carries) (is.below direction at.0 at.1));
}
