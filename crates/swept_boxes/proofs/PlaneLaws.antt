-- Boxes in the plane of an arc, and the ranges of its axes over them.
use Rattle.std.proofs.Common.{◌≡◌, ◌∙◌, ◌<◌, ◌≢◌, ◌==◌, ℕ, zero, suc, Bool, true, false, List, [], ◌∷◌, length, map, fold, refl, ap, sym, subst, arith, eq-eqb}
use Rattle.std.proofs.lemmas.Bool.{cond_both, cond-true, cond-false, ne_eqb, eqb-true}
use Rattle.std.proofs.lemmas.Int.{ints, clamps}
use Rattle.std.proofs.lemmas.List.Elements.{All-cons, All-nil, All-head, All-tail}
use Rattle.std.specs.Int.{int_max, int_min}
use Rattle.std.specs.List.{All, AllZip}
use Rattle.std.specs.Prelude.{ℤ, pos, neg_ℤ, ◌+ℤ◌, ◌-ℤ◌, ◌*ℤ◌, ◌≤ℤ◌, if◌then◌else◌}
use Rattle.number_laws.proofs.Integers.{≤ℤ_trans, +ℤ-*ℤ, neg-*ℤ, min_left, min_right, max_left, max_right}
use Rattle.number_laws.specs.Fractions.{IsIn}
use Rattle.micro_units.specs.declared.Um.{Um}
use Rattle.arc_quadrants.specs.Bounds.{Bounds, IsBound}
use Rattle.arc_quadrants.specs.Quadrants.{turned_back}
use Rattle.arc_quadrants.proofs.BoundLaws.{LieWithin}
use Rattle.axis_sets.specs.declared.ids.AxisId.{AxisId}
use Rattle.path_geometry.specs.Path.{Point, IsBetween, point_seen}
use Rattle.path_geometry.specs.Vectors.{Vector}
use Rattle.path_geometry.specs.declared.motion.Arc.{Arc}
use Rattle.swept_boxes.specs.Pieces.{range_between, range_over, ranges_over}
use Rattle.swept_boxes.specs.PlaneBoxes.{BoxInPlane, turned_ahead, smallest_box, joined_all}
use Rattle.swept_boxes.specs.Ranges.{RangesView, LieIn}

-- ---- a vector within bounds, turned ahead
pub record IsInPlane (box : BoxInPlane) (p : Vector) (n : ℕ) : Type 0 where
  pub on_u : IsIn box.u_low box.u_high p.u n
  pub on_v : IsIn box.v_low box.v_high p.v n

turned_in : (low high : ℕ) (z : ℤ) (n : ℕ) → IsIn (pos low) (pos high) (neg_ℤ z) n → IsIn (neg_ℤ (pos high)) (neg_ℤ (pos low)) z n
turned_in low high z n is =
    record {
      above = omega (arith, ints, is.below, neg-*ℤ (pos high) (pos n));
      below = omega (arith, ints, is.above, neg-*ℤ (pos low) (pos n));
    }

pub turned_holds : (turn : ℕ) (b : Bounds) (p : Vector) (n : ℕ) → IsBound b (turned_back turn p) n → IsInPlane (turned_ahead turn b) p n
turned_holds zero b p n is = record { on_u = is.on_u; on_v = is.on_v }
turned_holds (suc zero) b p n is = record { on_u = turned_in b.v_low b.v_high p.u n is.on_v; on_v = is.on_u }
turned_holds (suc (suc zero)) b p n is = record { on_u = turned_in b.u_low b.u_high p.u n is.on_u; on_v = turned_in b.v_low b.v_high p.v n is.on_v }
turned_holds (suc (suc (suc k))) b p n is = record { on_u = is.on_v; on_v = turned_in b.u_low b.u_high p.v n is.on_u }

-- ---- the ranges of the axes
moved_in : (low high centre top : ℤ) (n : ℕ) → IsIn low high (top -ℤ (centre *ℤ pos n)) n → IsIn (centre +ℤ low) (centre +ℤ high) top n
moved_in low high centre top n is =
    record {
      above = omega (arith, ints, is.above, +ℤ-*ℤ centre low (pos n));
      below = omega (arith, ints, is.below, +ℤ-*ℤ centre high (pos n));
    }

not_same : (a b : ℕ) → (a == b) ≡ false → a ≢ b
not_same a b test is = absurd (no_both (a == b) (eq-eqb a b is) test)
  where
    no_both : (t : Bool) → t ≡ true → t ≡ false → ⊥
    no_both true h k = cc
    no_both false h k = cc

abbrev pub RangeHolds : Point → AxisId × Um × Um → Type 0
RangeHolds point r = IsIn r.1 r.2 (point.top r.0) point.under

pub range_holds : (arc : Arc) (point : Point) (box : BoxInPlane) → IsInPlane box (point_seen arc point) point.under
    → (e : AxisId × Um × Um) → (e.0 ≢ arc.first → e.0 ≢ arc.second → IsBetween point e) → RangeHolds point (range_over arc box e)
range_holds arc point box is e other =
    cond_both (e.0 == arc.first) (e.0, arc.centre.0 +ℤ box.u_low, arc.centre.0 +ℤ box.u_high)
    (if e.0 == arc.second then (e.0, arc.centre.1 +ℤ box.v_low, arc.centre.1 +ℤ box.v_high) else range_between e) (RangeHolds point)
    (λ yes. subst (λ (axis : ℕ). IsIn (arc.centre.0 +ℤ box.u_low) (arc.centre.0 +ℤ box.u_high) (point.top axis) point.under)
    (sym (eqb-true e.0 arc.first yes)) (moved_in box.u_low box.u_high arc.centre.0 (point.top arc.first) point.under is.on_u))
    (λ no. cond_both (e.0 == arc.second) (e.0, arc.centre.1 +ℤ box.v_low, arc.centre.1 +ℤ box.v_high) (range_between e) (RangeHolds point)
    (λ yes. subst (λ (axis : ℕ). IsIn (arc.centre.1 +ℤ box.v_low) (arc.centre.1 +ℤ box.v_high) (point.top axis) point.under)
    (sym (eqb-true e.0 arc.second yes)) (moved_in box.v_low box.v_high arc.centre.1 (point.top arc.second) point.under is.on_v))
    (λ neither. other (not_same e.0 arc.first no) (not_same e.0 arc.second neither)))

-- ---- boxes within boxes
pub record AreWithin (a b : BoxInPlane) : Type 0 where
  pub u_low : b.u_low ≤ℤ a.u_low
  pub u_high : a.u_high ≤ℤ b.u_high
  pub v_low : b.v_low ≤ℤ a.v_low
  pub v_high : a.v_high ≤ℤ b.v_high

pub turned_within : (turn : ℕ) (b c : Bounds) → LieWithin b c → AreWithin (turned_ahead turn b) (turned_ahead turn c)
turned_within zero b c is =
    record { u_low = omega (arith, ints, is.u_low); u_high = omega (arith, ints, is.u_high); v_low = omega (arith, ints, is.v_low); v_high = omega (arith, ints, is.v_high) }
turned_within (suc zero) b c is =
    record { u_low = omega (arith, ints, is.v_high); u_high = omega (arith, ints, is.v_low); v_low = omega (arith, ints, is.u_low); v_high = omega (arith, ints, is.u_high) }
turned_within (suc (suc zero)) b c is =
    record { u_low = omega (arith, ints, is.u_high); u_high = omega (arith, ints, is.u_low); v_low = omega (arith, ints, is.v_high); v_high = omega (arith, ints, is.v_low) }
turned_within (suc (suc (suc n))) b c is =
    record { u_low = omega (arith, ints, is.v_low); u_high = omega (arith, ints, is.v_high); v_low = omega (arith, ints, is.u_high); v_high = omega (arith, ints, is.u_low) }

pub within_trans : (a b c : BoxInPlane) → AreWithin a b → AreWithin b c → AreWithin a c
within_trans a b c p q =
    record { u_low = ≤ℤ_trans q.u_low p.u_low; u_high = ≤ℤ_trans p.u_high q.u_high; v_low = ≤ℤ_trans q.v_low p.v_low; v_high = ≤ℤ_trans p.v_high q.v_high }

within_self : (a : BoxInPlane) → AreWithin a a
within_self a = record { u_low = omega (arith, ints); u_high = omega (arith, ints); v_low = omega (arith, ints); v_high = omega (arith, ints) }

first_joined : (a b : BoxInPlane) → AreWithin a (smallest_box a b)
first_joined a b =
    record { u_low = min_left a.u_low b.u_low; u_high = max_left a.u_high b.u_high; v_low = min_left a.v_low b.v_low; v_high = max_left a.v_high b.v_high }

second_joined : (a b : BoxInPlane) → AreWithin b (smallest_box a b)
second_joined a b =
    record { u_low = min_right a.u_low b.u_low; u_high = max_right a.u_high b.u_high; v_low = min_right a.v_low b.v_low; v_high = max_right a.v_high b.v_high }

fold_within : (a : BoxInPlane) (bs : List BoxInPlane) → AreWithin a (fold smallest_box a bs)
fold_within a [] = within_self a
fold_within a (b ∷ bs) = within_trans a (smallest_box a b) (fold smallest_box (smallest_box a b) bs) (first_joined a b) (fold_within (smallest_box a b) bs)

rest_within : (a : BoxInPlane) (bs : List BoxInPlane) → All (λ b. AreWithin b (fold smallest_box a bs)) bs
rest_within a [] = All-nil (λ b. AreWithin b a)
rest_within a (b ∷ bs) =
    All-cons (λ c. AreWithin c (fold smallest_box (smallest_box a b) bs)) b bs
    (within_trans b (smallest_box a b) (fold smallest_box (smallest_box a b) bs) (second_joined a b) (fold_within (smallest_box a b) bs))
    (rest_within (smallest_box a b) bs)

pub all_within : (bs : List BoxInPlane) → All (λ b. AreWithin b (joined_all bs)) bs
all_within [] = All-nil (λ b. AreWithin b (joined_all []))
all_within (b ∷ bs) = All-cons (λ c. AreWithin c (fold smallest_box b bs)) b bs (fold_within b bs) (rest_within b bs)

-- ---- ranges within ranges
abbrev pub EntryLies : AxisId × Um × Um → AxisId × Um × Um → Type 0
EntryLies r s = (r.0 ≡ s.0) × (s.1 ≤ℤ r.1) × (r.2 ≤ℤ s.2)

sum_mono : (c a b : ℤ) → a ≤ℤ b → (c +ℤ a) ≤ℤ (c +ℤ b)
sum_mono c a b h = omega (arith, ints)

entry_within : (arc : Arc) (a b : BoxInPlane) → AreWithin a b → (e : AxisId × Um × Um) → EntryLies (range_over arc a e) (range_over arc b e)
entry_within arc a b is e = by_tests (e.0 == arc.first) (e.0 == arc.second)
  where
    by_tests : (t u : Bool) → EntryLies
        (if t then (e.0, arc.centre.0 +ℤ a.u_low, arc.centre.0 +ℤ a.u_high) else if u then (e.0, arc.centre.1 +ℤ a.v_low, arc.centre.1 +ℤ a.v_high) else range_between e)
        (if t then (e.0, arc.centre.0 +ℤ b.u_low, arc.centre.0 +ℤ b.u_high) else if u then (e.0, arc.centre.1 +ℤ b.v_low, arc.centre.1 +ℤ b.v_high) else range_between e)
    by_tests true u = (refl, sum_mono arc.centre.0 b.u_low a.u_low is.u_low, sum_mono arc.centre.0 a.u_high b.u_high is.u_high)
    by_tests false true = (refl, sum_mono arc.centre.1 b.v_low a.v_low is.v_low, sum_mono arc.centre.1 a.v_high b.v_high is.v_high)
    by_tests false false = (refl, omega (arith, ints), omega (arith, ints))

zip_maps : {X Y Z : Type 0} (R : Y → Z → Type 0) (f : X → Y) (g : X → Z) → ((x : X) → R (f x) (g x))
    → (xs : List X) → AllZip R (map f xs) (map g xs)
zip_maps R f g h [] = tt
zip_maps R f g h (x ∷ xs) = (h x, zip_maps R f g h xs)

pub ranges_within : (arc : Arc) (a b : BoxInPlane) → AreWithin a b → LieIn (ranges_over arc a) (ranges_over arc b)
ranges_within arc a b is = zip_maps EntryLies (range_over arc a) (range_over arc b) (entry_within arc a b is) arc.ends.axes

-- ---- the ranges over a joined box are the smallest
low_joined : (c a b s : ℤ) → s ≤ℤ (c +ℤ a) → s ≤ℤ (c +ℤ b) → s ≤ℤ (c +ℤ int_min a b)
low_joined c a b s h k = omega (arith, ints, clamps)

high_joined : (c a b s : ℤ) → (c +ℤ a) ≤ℤ s → (c +ℤ b) ≤ℤ s → (c +ℤ int_max a b) ≤ℤ s
high_joined c a b s h k = omega (arith, ints, clamps)

entry_joined : (arc : Arc) (a b : BoxInPlane) (e s : AxisId × Um × Um) → EntryLies (range_over arc a e) s → EntryLies (range_over arc b e) s
    → EntryLies (range_over arc (smallest_box a b) e) s
entry_joined arc a b e s = by_tests (e.0 == arc.first) (e.0 == arc.second)
  where
    by_tests : (t u : Bool)
        → EntryLies (if t then (e.0, arc.centre.0 +ℤ a.u_low, arc.centre.0 +ℤ a.u_high) else if u then (e.0, arc.centre.1 +ℤ a.v_low, arc.centre.1 +ℤ a.v_high) else range_between e) s
        → EntryLies (if t then (e.0, arc.centre.0 +ℤ b.u_low, arc.centre.0 +ℤ b.u_high) else if u then (e.0, arc.centre.1 +ℤ b.v_low, arc.centre.1 +ℤ b.v_high) else range_between e) s
        → EntryLies (if t then (e.0, arc.centre.0 +ℤ (smallest_box a b).u_low, arc.centre.0 +ℤ (smallest_box a b).u_high) else if u then (e.0, arc.centre.1 +ℤ (smallest_box a b).v_low, arc.centre.1 +ℤ (smallest_box a b).v_high) else range_between e) s
    by_tests true u (same, low, high) (same2, low2, high2) =
        (same, low_joined arc.centre.0 a.u_low b.u_low s.1 low low2, high_joined arc.centre.0 a.u_high b.u_high s.2 high high2)
    by_tests false true (same, low, high) (same2, low2, high2) =
        (same, low_joined arc.centre.1 a.v_low b.v_low s.1 low low2, high_joined arc.centre.1 a.v_high b.v_high s.2 high high2)
    by_tests false false h k = h

zip_joined : {X Y Z : Type 0} (R : Y → Z → Type 0) (f g h : X → Y) → ((x : X) (z : Z) → R (f x) z → R (g x) z → R (h x) z)
    → (xs : List X) (zs : List Z) → AllZip R (map f xs) zs → AllZip R (map g xs) zs → AllZip R (map h xs) zs
zip_joined R f g h step [] [] p q = p
zip_joined R f g h step [] (z ∷ zs) p q = p
zip_joined R f g h step (x ∷ xs) [] p q = p
zip_joined R f g h step (x ∷ xs) (z ∷ zs) (p, ps) (q, qs) = (step x z p q, zip_joined R f g h step xs zs ps qs)

lie_joined : (arc : Arc) (other : RangesView) (a b : BoxInPlane) → LieIn (ranges_over arc a) other → LieIn (ranges_over arc b) other
    → LieIn (ranges_over arc (smallest_box a b)) other
lie_joined arc other a b = zip_joined EntryLies (range_over arc a) (range_over arc b) (range_over arc (smallest_box a b)) (entry_joined arc a b) arc.ends.axes other.axes

fold_lies : (arc : Arc) (other : RangesView) (a : BoxInPlane) (bs : List BoxInPlane) → LieIn (ranges_over arc a) other
    → All (λ b. LieIn (ranges_over arc b) other) bs → LieIn (ranges_over arc (fold smallest_box a bs)) other
fold_lies arc other a [] h all = h
fold_lies arc other a (b ∷ bs) h all =
    fold_lies arc other (smallest_box a b) bs (lie_joined arc other a b h (All-head (λ c. LieIn (ranges_over arc c) other) b bs all))
    (All-tail (λ c. LieIn (ranges_over arc c) other) b bs all)

pub joined_least : (arc : Arc) (other : RangesView) (bs : List BoxInPlane) → 0 < length bs → All (λ b. LieIn (ranges_over arc b) other) bs
    → LieIn (ranges_over arc (joined_all bs)) other
joined_least arc other [] some all = absurd (omega arith)
joined_least arc other (b ∷ bs) some all =
    fold_lies arc other b bs (All-head (λ c. LieIn (ranges_over arc c) other) b bs all) (All-tail (λ c. LieIn (ranges_over arc c) other) b bs all)

-- ---- the same as the code meets them
abbrev pub record_of : ℤ → ℤ → ℤ → ℤ → BoxInPlane
record_of a b c d = record { u_low = a; u_high = b; v_low = c; v_high = d }

pub box_same : (a b c d w x y z : ℤ) → a ≡ w → b ≡ x → c ≡ y → d ≡ z
    → record_of a b c d ≡ record_of w x y z
box_same a b c d w x y z e f g h =
    ap (λ (n : ℤ). record_of n b c d) e ∙ ap (λ (n : ℤ). record_of w n c d) f ∙ ap (λ (n : ℤ). record_of w x n d) g ∙ ap (λ (n : ℤ). record_of w x y n) h

pub on_second : (arc : Arc) (box : BoxInPlane) (e : AxisId × Um × Um) (low high : ℤ) → (e.0 ≡ arc.first → ⊥) → e.0 ≡ arc.second
    → low ≡ arc.centre.1 +ℤ box.v_low → high ≡ arc.centre.1 +ℤ box.v_high → (e.0, low, high) ≡ range_over arc box e
on_second arc box e low high other same l h =
    ap (λ (n : ℤ). (e.0, n, high)) l ∙ ap (λ (n : ℤ). (e.0, arc.centre.1 +ℤ box.v_low, n)) h
    ∙ sym (cond-false (e.0 == arc.first) (e.0, arc.centre.0 +ℤ box.u_low, arc.centre.0 +ℤ box.u_high)
    (if e.0 == arc.second then (e.0, arc.centre.1 +ℤ box.v_low, arc.centre.1 +ℤ box.v_high) else range_between e) (ne_eqb e.0 arc.first other)
    ∙ cond-true (e.0 == arc.second) (e.0, arc.centre.1 +ℤ box.v_low, arc.centre.1 +ℤ box.v_high) (range_between e) (eq-eqb e.0 arc.second same))
