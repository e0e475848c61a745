-- The box of a zone in a piece of a motion lies in the cover of the motion.
use Rattle.std.proofs.Common.{◌≡◌, ℕ, zero, suc, ℤ, pos, ◌≤ℤ◌, ◌+◌, ◌+ℤ◌, ◌-ℤ◌, ◌==◌, Bool, true, false, cond, List, [], ◌∷◌, map, get_or, Option, None, Some, find, zero-add, refl, ap, subst, ◌∙◌, arith}
use Rattle.std.proofs.lemmas.Int.{ints}
use Rattle.std.specs.List.{AllZip}
use Rattle.std.specs.Option.{option_map_or}
use Rattle.job_types.specs.declared.job.Side.{Side}
use Rattle.job_types.specs.declared.job.ZoneLine.{ZoneLine}
use Rattle.swept_boxes.specs.Boxes.{low_of, high_of}
use Rattle.swept_boxes.specs.Ranges.{RangesView, LieIn}
use Rattle.zone_stretches.specs.InCovers.{IsWithin}
use Rattle.zone_stretches.specs.Pieces.{piece_low, piece_high, by_direction, piece_box}
use Rattle.zone_stretches.specs.ZoneBoxes.{carried_bound, carried_low, carried_high, side_low, side_high, zone_box, box_of, low_in, high_in}

-- ---- the ranges of a piece

-- what lies in what, axis by axis
abbrev IsRangeWithin : ℕ × ℤ × ℤ → ℕ × ℤ × ℤ → Type 0
IsRangeWithin r s = (r.0 ≡ s.0) × (s.1 ≤ℤ r.1) × (r.2 ≤ℤ s.2)

-- an axis that a piece has not, its cover has not
pub absent : (inner outer : List (ℕ × ℤ × ℤ)) (axis : ℕ) → AllZip IsRangeWithin inner outer → find (λ r. r.0 == axis) inner ≡ None → find (λ r. r.0 == axis) outer ≡ None
absent [] [] axis lie none = refl
absent [] (s ∷ ss) axis lie none = absurd lie
absent (r ∷ rs) [] axis lie none = absurd lie
absent (r ∷ rs) (s ∷ ss) axis lie none =
    subst (λ (n : ℕ). cond (n == axis) (Some s) (find (λ e. e.0 == axis) ss) ≡ None) lie.0.0 (by_test (r.0 == axis) none (absent rs ss axis lie.1))
  where
    by_test : (b : Bool) → cond b (Some r) (find (λ e. e.0 == axis) rs) ≡ None → (find (λ e. e.0 == axis) rs ≡ None → find (λ e. e.0 == axis) ss ≡ None)
        → cond b (Some s) (find (λ e. e.0 == axis) ss) ≡ None
    by_test true none rest = absurd cc
    by_test false none rest = rest none

at_least : (a : ℤ) → a ≤ℤ a
at_least a = omega (arith, ints)

-- the bounds of an axis in a piece are within those in the cover
bounds_within : (inner outer : List (ℕ × ℤ × ℤ)) (axis : ℕ) (stands : ℤ) → AllZip IsRangeWithin inner outer
    → (option_map_or (λ r. r.1) (find (λ r. r.0 == axis) outer) stands ≤ℤ option_map_or (λ r. r.1) (find (λ r. r.0 == axis) inner) stands)
    × (option_map_or (λ r. r.2) (find (λ r. r.0 == axis) inner) stands ≤ℤ option_map_or (λ r. r.2) (find (λ r. r.0 == axis) outer) stands)
bounds_within [] [] axis stands lie = (at_least stands, at_least stands)
bounds_within [] (s ∷ ss) axis stands lie = absurd lie
bounds_within (r ∷ rs) [] axis stands lie = absurd lie
bounds_within (r ∷ rs) (s ∷ ss) axis stands lie =
    subst (λ (n : ℕ).
    (option_map_or (λ e. e.1) (cond (n == axis) (Some s) (find (λ e. e.0 == axis) ss)) stands ≤ℤ option_map_or (λ e. e.1) (find (λ e. e.0 == axis) (r ∷ rs)) stands)
    × (option_map_or (λ e. e.2) (find (λ e. e.0 == axis) (r ∷ rs)) stands ≤ℤ option_map_or (λ e. e.2) (cond (n == axis) (Some s) (find (λ e. e.0 == axis) ss)) stands)) lie.0.0
    (by_test (r.0 == axis) (bounds_within rs ss axis stands lie.1))
  where
    by_test : (b : Bool)
        → (option_map_or (λ e. e.1) (find (λ e. e.0 == axis) ss) stands ≤ℤ option_map_or (λ e. e.1) (find (λ e. e.0 == axis) rs) stands)
        × (option_map_or (λ e. e.2) (find (λ e. e.0 == axis) rs) stands ≤ℤ option_map_or (λ e. e.2) (find (λ e. e.0 == axis) ss) stands)
        → (option_map_or (λ e. e.1) (cond b (Some s) (find (λ e. e.0 == axis) ss)) stands ≤ℤ option_map_or (λ e. e.1) (cond b (Some r) (find (λ e. e.0 == axis) rs)) stands)
        × (option_map_or (λ e. e.2) (cond b (Some r) (find (λ e. e.0 == axis) rs)) stands ≤ℤ option_map_or (λ e. e.2) (cond b (Some s) (find (λ e. e.0 == axis) ss)) stands)
    by_test true rest = (lie.0.1, lie.0.2)
    by_test false rest = rest

-- ---- the box of a piece

-- a side that the motion does not carry has in a piece the bounds that it has in the cover
piece_low_is : (margin : ℤ) (ranges cover : RangesView) (at : ℕ → ℤ) → LieIn ranges cover → (side : Side)
    → piece_low margin ranges side (side_low margin (low_in cover at) (high_in cover at) side) ≡ side_low margin (low_in ranges at) (high_in ranges at) side
unfolding piece_low side_low low_in high_in
piece_low_is margin ranges cover at lie side = by_carrier side.carrier refl
  where
    by_range : (axis : ℕ) (minus : Bool) (o : Option (ℕ × ℤ × ℤ)) → find (λ r. r.0 == axis) ranges.axes ≡ o → side.carrier ≡ Some (axis, minus)
        → piece_low margin ranges side (side_low margin (low_in cover at) (high_in cover at) side) ≡ side_low margin (low_in ranges at) (high_in ranges at) side
    by_range axis true None is carried_bound = let none : find (λ r. r.0 == axis) cover.axes ≡ None = absent ranges.axes cover.axes axis lie is in rw (carried_bound, is, none) refl
    by_range axis false None is carried_bound = let none : find (λ r. r.0 == axis) cover.axes ≡ None = absent ranges.axes cover.axes axis lie is in rw (carried_bound, is, none) refl
    by_range axis true (Some r) is carried_bound = rw (carried_bound, is) refl
    by_range axis false (Some r) is carried_bound = rw (carried_bound, is) refl

    by_carrier : (o : Option (ℕ × Bool)) → side.carrier ≡ o
        → piece_low margin ranges side (side_low margin (low_in cover at) (high_in cover at) side) ≡ side_low margin (low_in ranges at) (high_in ranges at) side
    by_carrier None is = rw is refl
    by_carrier (Some (axis, minus)) is = by_range axis minus (find (λ r. r.0 == axis) ranges.axes) refl is

piece_high_is : (margin : ℤ) (ranges cover : RangesView) (at : ℕ → ℤ) → LieIn ranges cover → (side : Side)
    → piece_high margin ranges side (side_high margin (low_in cover at) (high_in cover at) side) ≡ side_high margin (low_in ranges at) (high_in ranges at) side
unfolding piece_high side_high low_in high_in
piece_high_is margin ranges cover at lie side = by_carrier side.carrier refl
  where
    by_range : (axis : ℕ) (minus : Bool) (o : Option (ℕ × ℤ × ℤ)) → find (λ r. r.0 == axis) ranges.axes ≡ o → side.carrier ≡ Some (axis, minus)
        → piece_high margin ranges side (side_high margin (low_in cover at) (high_in cover at) side) ≡ side_high margin (low_in ranges at) (high_in ranges at) side
    by_range axis true None is carried_bound = let none : find (λ r. r.0 == axis) cover.axes ≡ None = absent ranges.axes cover.axes axis lie is in rw (carried_bound, is, none) refl
    by_range axis false None is carried_bound = let none : find (λ r. r.0 == axis) cover.axes ≡ None = absent ranges.axes cover.axes axis lie is in rw (carried_bound, is, none) refl
    by_range axis true (Some r) is carried_bound = rw (carried_bound, is) refl
    by_range axis false (Some r) is carried_bound = rw (carried_bound, is) refl

    by_carrier : (o : Option (ℕ × Bool)) → side.carrier ≡ o
        → piece_high margin ranges side (side_high margin (low_in cover at) (high_in cover at) side) ≡ side_high margin (low_in ranges at) (high_in ranges at) side
    by_carrier None is = rw is refl
    by_carrier (Some (axis, minus)) is = by_range axis minus (find (λ r. r.0 == axis) ranges.axes) refl is

-- sides with their directions, where each has the bound of its direction
by_direction_is : (h : Side → ℤ → ℤ) (g f : Side → ℤ) → ((side : Side) → h side (g side) ≡ f side) → (bounds : ℕ → ℤ) (direction : ℕ) (sides : List Side)
    → ((k : ℕ) → bounds (direction + k) ≡ get_or (map g sides) k (pos 0)) → by_direction (λ side d. h side (bounds d)) direction sides ≡ map f sides
by_direction_is h g f same bounds direction [] each = refl
by_direction_is h g f same bounds direction (side ∷ sides) each =
    let here : direction ≡ direction + 0 = omega arith in
    let first : bounds direction ≡ g side = ap bounds here ∙ each 0 in
    rw (
      first,
      same side,
      by_direction_is h g f same bounds (direction + 1) sides (λ k. let past : (direction + 1) + k ≡ direction + suc k = omega arith in ap bounds past ∙ each (suc k)),
    ) refl

-- the box of a piece by its cover is the zone box of the piece
pub piece_box_is : (margin : ℤ) (zone : ZoneLine) (ranges cover : RangesView) (at : ℕ → ℤ) → LieIn ranges cover
    → piece_box margin zone.sides ranges (zone_box margin zone (low_in cover at) (high_in cover at)) ≡ zone_box margin zone (low_in ranges at) (high_in ranges at)
unfolding piece_box box_of
piece_box_is margin zone ranges cover at lie =
    rw (
      by_direction_is (piece_low margin ranges) (side_low margin (low_in cover at) (high_in cover at)) (side_low margin (low_in ranges at) (high_in ranges at)) (piece_low_is margin ranges cover at lie)
          (low_of (zone_box margin zone (low_in cover at) (high_in cover at))) 0 zone.sides (λ k. rw (zero-add k) refl),
      by_direction_is (piece_high margin ranges) (side_high margin (low_in cover at) (high_in cover at)) (side_high margin (low_in ranges at) (high_in ranges at)) (piece_high_is margin ranges cover at lie)
          (high_of (zone_box margin zone (low_in cover at) (high_in cover at))) 0 zone.sides (λ k. rw (zero-add k) refl),
    ) refl

-- ---- it lies in the box of the cover

added : (a b c : ℤ) → b ≤ℤ c → (a +ℤ b) ≤ℤ (a +ℤ c)
added a b c less = omega (arith, ints)

taken : (a b c : ℤ) → b ≤ℤ c → (a -ℤ c) ≤ℤ (a -ℤ b)
taken a b c less = omega (arith, ints)

side_low_lies : (margin : ℤ) (low high low' high' : ℕ → ℤ) → ((axis : ℕ) → low axis ≤ℤ low' axis) → ((axis : ℕ) → high' axis ≤ℤ high axis) → (side : Side)
    → side_low margin low high side ≤ℤ side_low margin low' high' side
unfolding side_low
side_low_lies margin low high low' high' lows highs side = by_carrier side.carrier
  where
    by_carrier : (o : Option (ℕ × Bool)) → carried_low o (side.lo -ℤ margin) low high ≤ℤ carried_low o (side.lo -ℤ margin) low' high'
    by_carrier None = at_least (side.lo -ℤ margin)
    by_carrier (Some (axis, false)) = added (side.lo -ℤ margin) (low axis) (low' axis) (lows axis)
    by_carrier (Some (axis, true)) = taken (side.lo -ℤ margin) (high' axis) (high axis) (highs axis)

side_high_lies : (margin : ℤ) (low high low' high' : ℕ → ℤ) → ((axis : ℕ) → low axis ≤ℤ low' axis) → ((axis : ℕ) → high' axis ≤ℤ high axis) → (side : Side)
    → side_high margin low' high' side ≤ℤ side_high margin low high side
unfolding side_high
side_high_lies margin low high low' high' lows highs side = by_carrier side.carrier
  where
    by_carrier : (o : Option (ℕ × Bool)) → carried_high o (side.hi +ℤ margin) low' high' ≤ℤ carried_high o (side.hi +ℤ margin) low high
    by_carrier None = at_least (side.hi +ℤ margin)
    by_carrier (Some (axis, false)) = added (side.hi +ℤ margin) (high' axis) (high axis) (highs axis)
    by_carrier (Some (axis, true)) = taken (side.hi +ℤ margin) (low axis) (low' axis) (lows axis)

map_lies : (f g : Side → ℤ) → ((side : Side) → f side ≤ℤ g side) → (sides : List Side) (k : ℕ) → get_or (map f sides) k (pos 0) ≤ℤ get_or (map g sides) k (pos 0)
map_lies f g lies [] k = at_least (pos 0)
map_lies f g lies (side ∷ sides) zero = lies side
map_lies f g lies (side ∷ sides) (suc k) = map_lies f g lies sides k

pub piece_lies : (margin : ℤ) (zone : ZoneLine) (ranges cover : RangesView) (at : ℕ → ℤ) → LieIn ranges cover
    → IsWithin (zone_box margin zone (low_in cover at) (high_in cover at)) (zone_box margin zone (low_in ranges at) (high_in ranges at))
unfolding box_of low_in high_in
piece_lies margin zone ranges cover at lie =
    let lows : (axis : ℕ) → low_in cover at axis ≤ℤ low_in ranges at axis = λ axis. (bounds_within ranges.axes cover.axes axis (at axis) lie).0 in
    let highs : (axis : ℕ) → high_in ranges at axis ≤ℤ high_in cover at axis = λ axis. (bounds_within ranges.axes cover.axes axis (at axis) lie).1 in
    record {
      low = map_lies (side_low margin (low_in cover at) (high_in cover at)) (side_low margin (low_in ranges at) (high_in ranges at))
          (side_low_lies margin (low_in cover at) (high_in cover at) (low_in ranges at) (high_in ranges at) lows highs) zone.sides;
      high = map_lies (side_high margin (low_in ranges at) (high_in ranges at)) (side_high margin (low_in cover at) (high_in cover at))
          (side_high_lies margin (low_in cover at) (high_in cover at) (low_in ranges at) (high_in ranges at) lows highs) zone.sides;
    }
