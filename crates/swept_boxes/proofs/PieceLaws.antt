-- The pieces of a motion hold each point of its path, and lie in its cover.
use Rattle.swept_boxes.specs.declared.limits.TheConstants.{PIECE_LIMIT}
use Rattle.std.proofs.Common.{◌≡◌, ◌∙◌, ◌+◌, ◌-◌, ◌*◌, ◌/◌, ◌^◌, ◌<◌, ◌≤◌, ◌⊎◌, ℕ, zero, suc, inl, inr, List, [], ◌∷◌, Some, None, length, get_or, map, drop, refl, ap, subst, sym, zero-add, arith}
use Rattle.std.proofs.Math.Nat.{mul-le-mul_right, mul-lt-mul_of_pos_right, one-le-pow}
use Rattle.std.proofs.lemmas.Int.{ints}
use Rattle.std.proofs.lemmas.List.Elements.{All-cons, All-map, All-nil}
use Rattle.std.proofs.lemmas.List.FromFn.{length-range_with_len, get_or-range_with_len, length-map-range_with_len, get_or-map-range_with_len}
use Rattle.std.proofs.lemmas.Nat.{div_below}
use Rattle.std.specs.Int.{int_max, int_min}
use Rattle.std.specs.List.{All, AllZip, Any, range_with_len, slice_get}
use Rattle.std.specs.Prelude.{ℤ, pos, ◌+ℤ◌, ◌-ℤ◌, ◌*ℤ◌, ◌≤ℤ◌}
use Rattle.number_laws.proofs.FloorLaws.{floor_div-le, ceil_div-ge, floor_div-one, ceil_div-one}
use Rattle.number_laws.proofs.FractionLaws.{in_from_same}
use Rattle.number_laws.proofs.Integers.{≤ℤ_trans, times_mono, min_left, min_right, max_left, max_right, min_greatest, max_least}
use Rattle.number_laws.proofs.Naturals.{le_or_lt}
use Rattle.number_laws.proofs.Orders.{some, given, by, both, all_of, refute}
use Rattle.number_laws.proofs.Ring.{num, var, plus, minus, times}
use Rattle.number_laws.specs.Floors.{floor_div, ceil_div}
use Rattle.number_laws.specs.Fractions.{IsIn}
use Rattle.micro_units.specs.declared.Um.{Um}
use Rattle.axis_sets.specs.declared.ids.AxisId.{AxisId}
use Rattle.path_geometry.specs.declared.motion.Arc.{Arc}
use Rattle.path_geometry.specs.declared.motion.Motion.{Motion}
use Rattle.path_geometry.specs.declared.motion.Motion.TheVariants.{Line, Rapid}
use Rattle.path_geometry.specs.declared.motion.Motion.TheVariants as Kind
use Rattle.swept_boxes.specs.Cover.{cover_of, AreSmallest}
use Rattle.arc_quadrants.specs.Quarters.{IsFit}
use Rattle.arc_quadrants.specs.declared.walk.Quarter.{Quarter}
use Rattle.arc_quadrants.proofs.ArcLaws.{quarters_fit}
use Rattle.arc_quadrants.proofs.HalfLaws.{few_parts}
use Rattle.path_geometry.specs.Ends.{EndsView}
use Rattle.path_geometry.specs.Motions.{IsSound}
use Rattle.path_geometry.specs.Path.{Point, way_divided, IsOnLine, IsOnRapid, IsOnPath}
use Rattle.swept_boxes.specs.Pieces.{low_of_part, high_of_part, range_of_part, part_of_line, pieces_of_line, pieces_of_rapid, range_between, box_of_ends, quarters_in, pieces_at}
use Rattle.swept_boxes.specs.Ranges.{RangesView, Hold, LieIn}
use Rattle.swept_boxes.proofs.ArcPieceLaws.{arc_covered, arc_in_cover, arc_smallest, few_arc_pieces}
use Rattle.swept_boxes.proofs.LineLaws.{floor-ge, ceil-le}

-- ---- the part of the way in which a position lies
pub record IsInPart (parts whole part j : ℕ) : Type 0 where
  pub one_of : j < parts
  pub begun : j * whole ≤ part * parts
  pub not_over : part * parts ≤ (j + 1) * whole

in_last : (parts whole part : ℕ) → 0 < parts → part ≤ whole → whole ≤ part → IsInPart parts whole part (parts - 1)
in_last parts whole part some_parts h over =
    let last : (parts - 1) + 1 ≡ parts = omega arith in
    let same : part ≡ whole = omega arith in
    record {
      one_of = omega arith;
      begun = rw same (omega (arith, mul-le-mul_right whole (let less : parts - 1 ≤ parts = omega arith in less)));
      not_over = rw (last, same) (omega arith);
    }

in_quotient : (parts whole part : ℕ) → 0 < parts → 0 < whole → part < whole → IsInPart parts whole part (part * parts / whole)
in_quotient parts whole part some_parts some_whole less =
    record {
      one_of = div_below (part * parts) whole parts some_whole (omega (arith, mul-lt-mul_of_pos_right less some_parts));
      begun = omega arith;
      not_over = omega arith;
    }

part_at : (parts whole part : ℕ) → 0 < parts → 0 < whole → part ≤ whole → (j : ℕ) × IsInPart parts whole part j
part_at parts whole part some_parts some_whole h = at_order (le_or_lt whole part)
  where
    at_order : (whole ≤ part) ⊎ (part < whole) → (j : ℕ) × IsInPart parts whole part j
    at_order (inl over) = (parts - 1, in_last parts whole part some_parts h over)
    at_order (inr less) = (part * parts / whole, in_quotient parts whole part some_parts some_whole less)

-- ---- a position between two marks is between their bounds
above : (start end low : ℤ) (parts whole part j : ℕ) → IsInPart parts whole part j → 0 < parts
    → (low *ℤ pos parts) ≤ℤ way_divided start end parts j → (low *ℤ pos parts) ≤ℤ way_divided start end parts (j + 1)
    → (low *ℤ pos whole) ≤ℤ way_divided start end whole part
above start end low parts whole part j is some_parts first second =
    let s = var 0 in
    let e = var 1 in
    let m = var 2 in
    let p = var 3 in
    let n = var 4 in
    let k = var 5 in
    let i = var 6 in
    let one = num (pos 1) in
    let h1 : pos 0 ≤ℤ (way_divided start end parts j -ℤ (low *ℤ pos parts)) = omega (arith, ints) in
    let h2 : pos 0 ≤ℤ (((start *ℤ (pos parts -ℤ (pos j +ℤ pos 1))) +ℤ (end *ℤ (pos j +ℤ pos 1))) -ℤ (low *ℤ pos parts)) = omega (arith, ints) in
    let h3 : pos 0 ≤ℤ (((pos j +ℤ pos 1) *ℤ pos whole) -ℤ (pos part *ℤ pos parts)) = omega (arith, ints, is.not_over) in
    let h4 : pos 0 ≤ℤ ((pos part *ℤ pos parts) -ℤ (pos j *ℤ pos whole)) = omega (arith, ints, is.begun) in
    let h5 : pos 0 ≤ℤ (pos parts -ℤ pos 1) = omega (arith, ints) in
    refute (start ∷ end ∷ low ∷ pos parts ∷ pos whole ∷ pos part ∷ pos j ∷ [])
    (minus (plus (times s (minus p i)) (times e i)) (times m p)
    ∷ minus (plus (times s (minus p (plus i one))) (times e (plus i one))) (times m p)
    ∷ minus (times (plus i one) n) (times k p) ∷ minus (times k p) (times i n) ∷ minus p one ∷ [])
    []
    (all_of (by (both (given 5) (some 1)) (given 0) ∷ by (given 1) (given 3) ∷ by (given 2) (given 4) ∷ given 5 ∷ []))
    (times m n) (plus (times s (minus n k)) (times e k)) (h1, (h2, (h3, (h4, (h5, tt))))) tt tt

below : (start end high : ℤ) (parts whole part j : ℕ) → IsInPart parts whole part j → 0 < parts
    → way_divided start end parts j ≤ℤ (high *ℤ pos parts) → way_divided start end parts (j + 1) ≤ℤ (high *ℤ pos parts)
    → way_divided start end whole part ≤ℤ (high *ℤ pos whole)
below start end high parts whole part j is some_parts first second =
    let s = var 0 in
    let e = var 1 in
    let m = var 2 in
    let p = var 3 in
    let n = var 4 in
    let k = var 5 in
    let i = var 6 in
    let one = num (pos 1) in
    let h1 : pos 0 ≤ℤ ((high *ℤ pos parts) -ℤ way_divided start end parts j) = omega (arith, ints) in
    let h2 : pos 0 ≤ℤ ((high *ℤ pos parts) -ℤ ((start *ℤ (pos parts -ℤ (pos j +ℤ pos 1))) +ℤ (end *ℤ (pos j +ℤ pos 1)))) = omega (arith, ints) in
    let h3 : pos 0 ≤ℤ (((pos j +ℤ pos 1) *ℤ pos whole) -ℤ (pos part *ℤ pos parts)) = omega (arith, ints, is.not_over) in
    let h4 : pos 0 ≤ℤ ((pos part *ℤ pos parts) -ℤ (pos j *ℤ pos whole)) = omega (arith, ints, is.begun) in
    let h5 : pos 0 ≤ℤ (pos parts -ℤ pos 1) = omega (arith, ints) in
    refute (start ∷ end ∷ high ∷ pos parts ∷ pos whole ∷ pos part ∷ pos j ∷ [])
    (minus (times m p) (plus (times s (minus p i)) (times e i))
    ∷ minus (times m p) (plus (times s (minus p (plus i one))) (times e (plus i one)))
    ∷ minus (times (plus i one) n) (times k p) ∷ minus (times k p) (times i n) ∷ minus p one ∷ [])
    []
    (all_of (by (both (given 5) (some 1)) (given 0) ∷ by (given 1) (given 3) ∷ by (given 2) (given 4) ∷ given 5 ∷ []))
    (plus (times s (minus n k)) (times e k)) (times m n) (h1, (h2, (h3, (h4, (h5, tt))))) tt tt

low_is_below : (low z : ℤ) (parts : ℕ) → 0 < parts → low ≤ℤ floor_div z parts → (low *ℤ pos parts) ≤ℤ z
low_is_below low z parts some_parts h =
    ≤ℤ_trans (times_mono parts low (floor_div z parts) h) (floor_div-le z parts some_parts)

high_is_above : (high z : ℤ) (parts : ℕ) → 0 < parts → ceil_div z parts ≤ℤ high → z ≤ℤ (high *ℤ pos parts)
high_is_above high z parts some_parts h =
    ≤ℤ_trans (ceil_div-ge z parts some_parts) (times_mono parts (ceil_div z parts) high h)

in_part : (start end : ℤ) (parts whole part j : ℕ) → IsInPart parts whole part j → 0 < parts
    → IsIn (low_of_part start end parts j) (high_of_part start end parts j) (way_divided start end whole part) whole
in_part start end parts whole part j is some_parts =
    let first = way_divided start end parts j in
    let second = way_divided start end parts (j + 1) in
    record {
      above = above start end (low_of_part start end parts j) parts whole part j is some_parts
          (low_is_below (low_of_part start end parts j) first parts some_parts (min_left (floor_div first parts) (floor_div second parts)))
          (low_is_below (low_of_part start end parts j) second parts some_parts (min_right (floor_div first parts) (floor_div second parts)));
      below = below start end (high_of_part start end parts j) parts whole part j is some_parts
          (high_is_above (high_of_part start end parts j) first parts some_parts (max_left (ceil_div first parts) (ceil_div second parts)))
          (high_is_above (high_of_part start end parts j) second parts some_parts (max_right (ceil_div first parts) (ceil_div second parts)));
    }

-- ---- lists by their places
get_mapped : {X : Type 0} (f : ℕ → X) (a n k : ℕ) → k < n → slice_get (map f (range_with_len a n)) k ≡ Some (f (a + k))
get_mapped f a zero k h = absurd (omega arith)
get_mapped f a (suc n) zero h = let e : a + 0 ≡ a = omega arith in rw e refl
get_mapped f a (suc n) (suc k) h = let e : a + suc k ≡ (a + 1) + k = omega arith in rw e (get_mapped f (a + 1) n k (omega arith))

get_past : {X : Type 0} (xs : List X) (k : ℕ) → length xs ≤ k → slice_get xs k ≡ None
get_past [] k h = refl
get_past (x ∷ xs) zero h = absurd (omega arith)
get_past (x ∷ xs) (suc k) h = get_past xs k (omega arith)

get_within : {X : Type 0} (xs : List X) (k : ℕ) (x : X) → slice_get xs k ≡ Some x → k < length xs
get_within [] k x h = absurd (cc)
get_within (y ∷ xs) zero x h = omega arith
get_within (y ∷ xs) (suc k) x h = let e = get_within xs k x h in omega arith

drop_get : {X : Type 0} (xs : List X) (k : ℕ) (x : X) → slice_get xs k ≡ Some x → drop k xs ≡ x ∷ drop (k + 1) xs
drop_get [] k x h = absurd (cc)
drop_get (y ∷ xs) zero x h = let e : y ≡ x = cc in ap (λ z. z ∷ xs) e
drop_get (y ∷ xs) (suc k) x h = let e : suc k + 1 ≡ suc (k + 1) = omega arith in rw e (drop_get xs k x h)

drop_none : {X : Type 0} (xs : List X) (k : ℕ) → slice_get xs k ≡ None → drop k xs ≡ []
drop_none [] zero h = refl
drop_none [] (suc k) h = refl
drop_none (y ∷ xs) zero h = absurd (cc)
drop_none (y ∷ xs) (suc k) h = drop_none xs k h

-- ---- the pieces of a line
some_parts_at : (depth : ℕ) → 0 < 2 ^ depth
some_parts_at depth = omega (arith, one-le-pow depth 2 (omega arith))

part_holds : (ends : EndsView) (point : Point) (l : IsOnLine ends point) (parts j : ℕ) → IsInPart parts l.whole l.part j → 0 < parts
    → Hold (part_of_line ends parts j) point
part_holds ends point l parts j is some_parts =
    All-map (λ r. IsIn r.1 r.2 (point.top r.0) point.under) (range_of_part parts j) ends.axes
    (λ i d h. let e = get_or ends.axes i d in
    in_from_same (low_of_part e.1 e.2 parts j) (high_of_part e.1 e.2 parts j) (way_divided e.1 e.2 l.whole l.part) (point.top e.0) l.whole point.under l.above_none
    (sym (l.gone i d h)) (in_part e.1 e.2 parts l.whole l.part j is some_parts))

pub line_covered : (ends : EndsView) (depth : ℕ) (point : Point) → IsOnLine ends point
    → Any (λ piece. Hold piece point) (pieces_at (Line ends) depth)
line_covered ends depth point l = at_part (part_at (2 ^ depth) l.whole l.part (some_parts_at depth) l.above_none l.no_further)
  where
    at_part : (j : ℕ) × IsInPart (2 ^ depth) l.whole l.part j → Any (λ piece. Hold piece point) (pieces_at (Line ends) depth)
    at_part (j, is) = (
      j,
      part_of_line ends (2 ^ depth) j,
      rw length-map-range_with_len is.one_of,
      get_or-map-range_with_len (part_of_line ends (2 ^ depth)) 0 (2 ^ depth) j j (part_of_line ends (2 ^ depth) j) is.one_of (omega arith),
      part_holds ends point l (2 ^ depth) j is (some_parts_at depth),
    )

rapid_covered : (ends : EndsView) (point : Point) → IsOnRapid ends point → Hold (box_of_ends ends) point
rapid_covered ends point on = All-map (λ r. IsIn r.1 r.2 (point.top r.0) point.under) range_between ends.axes on.between

pub covered : (motion : Motion) (depth : ℕ) (point : Point) → IsSound motion → IsOnPath motion point → Any (λ piece. Hold piece point) (pieces_at motion depth)
covered (Line ends) depth point sound on = line_covered ends depth point on
covered (Rapid ends) depth point sound on = (0, box_of_ends ends, omega arith, refl, rapid_covered ends point on)
covered (Kind.Arc arc) depth point sound on = arc_covered arc depth point sound on

-- ---- the cover of a line
AllZip-maps : {X Y Z : Type 0} (R : Y → Z → Type 0) (f : X → Y) (g : X → Z) → ((x : X) → R (f x) (g x))
    → (xs : List X) → AllZip R (map f xs) (map g xs)
AllZip-maps R f g h [] = tt
AllZip-maps R f g h (x ∷ xs) = (h x, AllZip-maps R f g h xs)

part_in_cover : (ends : EndsView) (parts j : ℕ) → j < parts → LieIn (part_of_line ends parts j) (box_of_ends ends)
part_in_cover ends parts j h =
    AllZip-maps (λ r s. (r.0 ≡ s.0) × (s.1 ≤ℤ r.1) × (r.2 ≤ℤ s.2)) (range_of_part parts j) range_between
    (λ e. (refl, low e.1 e.2, high e.1 e.2)) ends.axes
  where
    low : (start end : ℤ) → int_min start end ≤ℤ low_of_part start end parts j
    low start end =
        min_greatest (int_min start end) (floor_div (way_divided start end parts j) parts) (floor_div (way_divided start end parts (j + 1)) parts)
        (floor-ge start end (int_min start end) parts j (omega arith) (omega arith) (min_left start end) (min_right start end))
        (floor-ge start end (int_min start end) parts (j + 1) (omega arith) (omega arith) (min_left start end) (min_right start end))

    high : (start end : ℤ) → high_of_part start end parts j ≤ℤ int_max start end
    high start end =
        max_least (int_max start end) (ceil_div (way_divided start end parts j) parts) (ceil_div (way_divided start end parts (j + 1)) parts)
        (ceil-le start end (int_max start end) parts j (omega arith) (omega arith) (max_left start end) (max_right start end))
        (ceil-le start end (int_max start end) parts (j + 1) (omega arith) (omega arith) (max_left start end) (max_right start end))

line_in_cover : (ends : EndsView) (depth : ℕ) → All (λ piece. LieIn piece (box_of_ends ends)) (pieces_of_line ends depth)
line_in_cover ends depth =
    All-map (λ piece. LieIn piece (box_of_ends ends)) (part_of_line ends (2 ^ depth)) (range_with_len 0 (2 ^ depth))
    (λ i d h. part_in_cover ends (2 ^ depth) (get_or (range_with_len 0 (2 ^ depth)) i d) (number_below i d h))
  where
    number_below : (i d : ℕ) → i < length (range_with_len 0 (2 ^ depth)) → get_or (range_with_len 0 (2 ^ depth)) i d < 2 ^ depth
    number_below i d h =
        let less : i < 2 ^ depth = rw length-range_with_len at h in omega (arith, get_or-range_with_len 0 (2 ^ depth) i d less)

lies_in_itself : (ranges : RangesView) → LieIn ranges ranges
lies_in_itself ranges = of_list ranges.axes
  where
    of_list : (axes : List (AxisId × Um × Um)) → AllZip (λ r s. (r.0 ≡ s.0) × (s.1 ≤ℤ r.1) × (r.2 ≤ℤ s.2)) axes axes
    of_list [] = tt
    of_list (e ∷ es) = ((refl, omega (arith, ints), omega (arith, ints)), of_list es)

pub in_cover : (motion : Motion) (depth : ℕ) → IsSound motion → All (λ piece. LieIn piece (cover_of motion)) (pieces_at motion depth)
in_cover (Line ends) depth sound = line_in_cover ends depth
in_cover (Rapid ends) depth sound =
    All-cons (λ piece. LieIn piece (box_of_ends ends)) (box_of_ends ends) [] (lies_in_itself (box_of_ends ends)) (All-nil (λ piece. LieIn piece (box_of_ends ends)))
in_cover (Kind.Arc arc) depth sound = arc_in_cover arc depth sound

-- at depth 0 the cover is the one piece
start_is : (start end : ℤ) → way_divided start end 1 0 ≡ start
start_is start end = omega (arith, ints)

end_is : (start end : ℤ) → way_divided start end 1 (0 + 1) ≡ end
end_is start end = omega (arith, ints)

whole_low : (start end : ℤ) → low_of_part start end 1 0 ≡ int_min start end
whole_low start end =
    ap (λ z. int_min z (floor_div (way_divided start end 1 (0 + 1)) 1)) (floor_div-one (way_divided start end 1 0) ∙ start_is start end)
    ∙ ap (λ z. int_min start z) (floor_div-one (way_divided start end 1 (0 + 1)) ∙ end_is start end)

whole_high : (start end : ℤ) → high_of_part start end 1 0 ≡ int_max start end
whole_high start end =
    ap (λ z. int_max z (ceil_div (way_divided start end 1 (0 + 1)) 1)) (ceil_div-one (way_divided start end 1 0) ∙ start_is start end)
    ∙ ap (λ z. int_max start z) (ceil_div-one (way_divided start end 1 (0 + 1)) ∙ end_is start end)

whole_range : (e : AxisId × Um × Um) → range_of_part 1 0 e ≡ range_between e
whole_range e =
    let same_low : range_of_part 1 0 e ≡ (e.0, int_min e.1 e.2, high_of_part e.1 e.2 1 0) = ap (λ (z : ℤ). (e.0, z, high_of_part e.1 e.2 1 0)) (whole_low e.1 e.2) in
    same_low ∙ ap (λ (z : ℤ). (e.0, int_min e.1 e.2, z)) (whole_high e.1 e.2)

map-same : {X Y : Type 0} (f g : X → Y) → ((x : X) → f x ≡ g x) → (xs : List X) → map f xs ≡ map g xs
map-same f g h [] = refl
map-same f g h (x ∷ xs) = ap (λ y. y ∷ map f xs) (h x) ∙ ap (λ ys. g x ∷ ys) (map-same f g h xs)

pub whole_line : (ends : EndsView) → part_of_line ends 1 0 ≡ box_of_ends ends
whole_line ends =
    ap (λ (axes : List (AxisId × Um × Um)). record { axes = axes }) (map-same (range_of_part 1 0) range_between whole_range ends.axes)

pub smallest : (motion : Motion) → IsSound motion → AreSmallest (cover_of motion) (pieces_at motion 0)
smallest (Line ends) sound =
    record {
      hold = in_cover (Line ends) 0 sound;
      least = λ other h. subst (λ (ranges : RangesView). LieIn ranges other) (whole_line ends) (h 0 (box_of_ends ends) (omega arith));
    }
smallest (Rapid ends) sound =
    record {
      hold = in_cover (Rapid ends) 0 sound;
      least = λ other h. h 0 (box_of_ends ends) (omega arith);
    }
smallest (Kind.Arc arc) sound = arc_smallest arc sound

-- ---- a piece by its place, as the code meets it
pub piece_of_line : (ends : EndsView) (depth place parts : ℕ) (piece : RangesView) → parts ≡ 2 ^ depth → place < parts → piece ≡ part_of_line ends parts place
    → Some piece ≡ slice_get (pieces_of_line ends depth) place
piece_of_line ends depth place parts piece is less e =
    let here : place < 2 ^ depth = omega arith in
    ap (λ (r : RangesView). Some r) (e ∙ ap (λ (n : ℕ). part_of_line ends n place) is)
    ∙ ap (λ (n : ℕ). Some (part_of_line ends (2 ^ depth) n)) (sym (zero-add place))
    ∙ sym (get_mapped (part_of_line ends (2 ^ depth)) 0 (2 ^ depth) place here)

pub no_piece_of_line : (ends : EndsView) (depth place parts : ℕ) → parts ≡ 2 ^ depth → parts ≤ place → None ≡ slice_get (pieces_of_line ends depth) place
no_piece_of_line ends depth place parts is past = sym (get_past (pieces_of_line ends depth) place (rw length-map-range_with_len (omega arith)))

pub ruleset line_places = (piece_of_line, no_piece_of_line)

pub no_second_piece : (ends : EndsView) (place : ℕ) → (place ≡ 0 → ⊥) → None ≡ slice_get (pieces_of_rapid ends) place
no_second_piece ends zero later = absurd (later refl)
no_second_piece ends (suc place) later = refl

pub only_piece : (ends : EndsView) (place : ℕ) (piece : RangesView) → place ≡ 0 → piece ≡ box_of_ends ends → Some piece ≡ slice_get (pieces_of_rapid ends) place
only_piece ends zero piece e is = ap (λ (r : RangesView). Some r) is
only_piece ends (suc place) piece e is = absurd (omega arith)

pub few_pieces : (motion : Motion) (depth : ℕ) → depth ≤ 4 → length (pieces_at motion depth) ≤ PIECE_LIMIT
few_pieces (Line ends) depth h = rw length-map-range_with_len (omega (arith, few_parts depth h))
few_pieces (Rapid ends) depth h = omega arith
few_pieces (Kind.Arc arc) depth h = few_arc_pieces arc depth h

-- a place that has a piece is among the first eighty
pub few_places : (motion : Motion) (depth place : ℕ) (piece : RangesView) → depth ≤ 4 → Some piece ≡ slice_get (pieces_at motion depth) place → place < PIECE_LIMIT
few_places motion depth place piece deep h =
    omega (arith, few_pieces motion depth deep, get_within (pieces_at motion depth) place piece (sym h))

-- ---- the pieces that are left
pub left_more : (xs left : List RangesView) (n : ℕ) (piece : RangesView) → drop n xs ≡ left → Some piece ≡ slice_get xs n → left ≡ piece ∷ drop (n + 1) xs
left_more xs left n piece view h = sym view ∙ drop_get xs n piece (sym h)

pub left_none : (xs left : List RangesView) (n : ℕ) → drop n xs ≡ left → None ≡ slice_get xs n → left ≡ []
left_none xs left n view h = sym view ∙ drop_none xs n (sym h)

-- the quarters of a motion along an arc fit
pub quarters_of_motion : (motion : Motion) (arc : Arc) (quarters : List Quarter) → motion ≡ Kind.Arc arc → IsSound motion → quarters ≡ quarters_in motion
    → All IsFit quarters
quarters_of_motion motion arc quarters is sound same =
    subst (λ (qs : List Quarter). All IsFit qs) (sym (same ∙ ap quarters_in is)) (quarters_fit arc (subst (λ (m : Motion). IsSound m) is sound))
