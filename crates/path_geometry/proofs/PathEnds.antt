-- The start and the end of a sound motion are points of its path.
use Rattle.std.proofs.Common.{◌≡◌, ◌∙◌, ℕ, ◌*◌, ◌≤◌, ◌<◌, ◌==◌, ℤ, pos, ◌*ℤ◌, ◌-ℤ◌, ◌≤ℤ◌, unsigned_abs, Bool, true, false, cond, ◌||◌, List, [], ◌∷◌, find, Some, All, inl, inr, refl, sym, ap, subst, arith}
use Rattle.std.proofs.Math.Nat.{mul-le-mul_right}
use Rattle.std.proofs.lemmas.Bool.{eqb-true}
use Rattle.std.proofs.lemmas.Int.{unsigned_abs-mul}
use Rattle.std.proofs.lemmas.List.Elements.{All-head, All-tail, All-weaker}
use Rattle.std.specs.Int.{int_max, int_min}
use Rattle.std.specs.List.{list_any}
use Rattle.std.specs.Option.{option_map_or}
use Rattle.number_laws.proofs.Integers.{times_mono, nonneg-*ℤ, nonneg-pos, min_left, min_right, max_left, max_right}
use Rattle.number_laws.proofs.Ring.{num, var, minus, times, ring}
use Rattle.number_laws.specs.Fractions.{IsIn}
use Rattle.path_geometry.proofs.PathLaws.{start_on_line, end_on_line}
use Rattle.path_geometry.proofs.RingLaws.{ring as ring_of}
use Rattle.path_geometry.specs.Arcs.{start_seen, end_seen}
use Rattle.path_geometry.specs.Ends.{start_of, end_of}
use Rattle.path_geometry.specs.Motions.{axes_of, IsSoundArc, IsSound}
use Rattle.path_geometry.specs.Path.{Point, IsBetween, point_seen, IsSwept, IsOnArc, IsOnPath}
use Rattle.path_geometry.specs.Rings.{LiesInRing}
use Rattle.path_geometry.specs.Vectors.{Vector, cross, square}
use Rattle.path_geometry.specs.declared.motion.Arc.{Arc}
use Rattle.path_geometry.specs.declared.motion.Motion.{Motion}
use Rattle.path_geometry.specs.declared.motion.Motion.TheVariants.{Line, Rapid}
use Rattle.path_geometry.specs.declared.motion.Motion.TheVariants as Kind

-- ---- an axis by itself

-- each axis is at the position that is picked for it
abbrev ArePicked : (ℕ × ℤ × ℤ → ℤ) → Point → List (ℕ × ℤ × ℤ) → Type 0
ArePicked pick point axes = All (λ e. point.top e.0 ≡ pick e *ℤ pos point.under) axes

-- a position that is not below the lesser end and not above the greater one
between : (start end position top : ℤ) (n : ℕ) → int_min start end ≤ℤ position → position ≤ℤ int_max start end → top ≡ position *ℤ pos n
    → IsIn (int_min start end) (int_max start end) top n
between start end position top n low high is = record {
  above = subst (λ t. (int_min start end *ℤ pos n) ≤ℤ t) (sym is) (times_mono n (int_min start end) position low);
  below = subst (λ t. t ≤ℤ (int_max start end *ℤ pos n)) (sym is) (times_mono n position (int_max start end) high);
}

starts_between : (point : Point) (axes : List (ℕ × ℤ × ℤ)) → ArePicked (λ e. e.1) point axes → All (IsBetween point) axes
starts_between point axes all =
    All-weaker (λ e. point.top e.0 ≡ e.1 *ℤ pos point.under) (IsBetween point)
    (λ e is. between e.1 e.2 e.1 (point.top e.0) point.under (min_left e.1 e.2) (max_left e.1 e.2) is) axes all

ends_between : (point : Point) (axes : List (ℕ × ℤ × ℤ)) → ArePicked (λ e. e.2) point axes → All (IsBetween point) axes
ends_between point axes all =
    All-weaker (λ e. point.top e.0 ≡ e.2 *ℤ pos point.under) (IsBetween point)
    (λ e is. between e.1 e.2 e.2 (point.top e.0) point.under (min_right e.1 e.2) (max_right e.1 e.2) is) axes all

-- an axis of the motion is at the position that is picked for it
picked_at : (pick : ℕ × ℤ × ℤ → ℤ) (point : Point) (axis : ℕ) (axes : List (ℕ × ℤ × ℤ)) → list_any (λ e. e.0 == axis) axes ≡ true → ArePicked pick point axes
    → point.top axis ≡ option_map_or pick (find (λ e. e.0 == axis) axes) (pos 0) *ℤ pos point.under
picked_at pick point axis [] has all = absurd cc
picked_at pick point axis (e ∷ axes) has all =
    by_test (e.0 == axis) refl has (λ rest. picked_at pick point axis axes rest (All-tail (λ f. point.top f.0 ≡ pick f *ℤ pos point.under) e axes all))
  where
    by_test : (b : Bool) → (e.0 == axis) ≡ b → (b || list_any (λ f. f.0 == axis) axes) ≡ true
        → (list_any (λ f. f.0 == axis) axes ≡ true → point.top axis ≡ option_map_or pick (find (λ f. f.0 == axis) axes) (pos 0) *ℤ pos point.under)
        → point.top axis ≡ option_map_or pick (cond b (Some e) (find (λ f. f.0 == axis) axes)) (pos 0) *ℤ pos point.under
    by_test true is has rest =
        subst (λ (a : ℕ). point.top a ≡ pick e *ℤ pos point.under) (eqb-true e.0 axis is) (All-head (λ f. point.top f.0 ≡ pick f *ℤ pos point.under) e axes all)
    by_test false is has rest = rest has

-- ---- the plane of an arc

-- a vector a number of times
abbrev stretched : Vector → ℕ → Vector
stretched w n = record { u = w.u *ℤ pos n; v = w.v *ℤ pos n }

stretched_square : (w : Vector) (n : ℕ) → square (stretched w n) ≡ square w * (n * n)
stretched_square w n =
    let u : unsigned_abs (w.u *ℤ pos n) ≡ unsigned_abs w.u * n = unsigned_abs-mul w.u (pos n) in
    let v : unsigned_abs (w.v *ℤ pos n) ≡ unsigned_abs w.v * n = unsigned_abs-mul w.v (pos n) in
    rw (u, v) (omega arith)

-- a point over a number is seen that number of times
seen_at : (position centre : ℤ) (n : ℕ) → (position *ℤ pos n) -ℤ (centre *ℤ pos n) ≡ (position -ℤ centre) *ℤ pos n
seen_at position centre n =
    ring (position ∷ centre ∷ pos n ∷ []) (minus (times (var 0) (var 2)) (times (var 1) (var 2))) (times (minus (var 0) (var 1)) (var 2)) tt

seen_stretched : (arc : Arc) (point : Point) (first second : ℤ) → point.top arc.first ≡ first *ℤ pos point.under → point.top arc.second ≡ second *ℤ pos point.under
    → point_seen arc point ≡ stretched (record { u = first -ℤ arc.centre.0; v = second -ℤ arc.centre.1 }) point.under
seen_stretched arc point first second one two =
    rw (one, two, seen_at first arc.centre.0 point.under, seen_at second arc.centre.1 point.under) refl

-- ahead of s and after e lie s and e themselves
cross_itself : (s : Vector) (n : ℕ) → cross s (stretched s n) ≡ pos 0
cross_itself s n =
    ring (s.u ∷ s.v ∷ pos n ∷ []) (minus (times (var 0) (times (var 1) (var 2))) (times (var 1) (times (var 0) (var 2)))) (num (pos 0)) tt

itself_cross : (e : Vector) (n : ℕ) → cross (stretched e n) e ≡ pos 0
itself_cross e n =
    ring (e.u ∷ e.v ∷ pos n ∷ []) (minus (times (times (var 0) (var 2)) (var 1)) (times (times (var 1) (var 2)) (var 0))) (num (pos 0)) tt

cross_stretched : (s e : Vector) (n : ℕ) → cross s (stretched e n) ≡ cross s e *ℤ pos n
cross_stretched s e n =
    ring (s.u ∷ s.v ∷ e.u ∷ e.v ∷ pos n ∷ []) (minus (times (var 0) (times (var 3) (var 4))) (times (var 1) (times (var 2) (var 4))))
    (times (minus (times (var 0) (var 3)) (times (var 1) (var 2))) (var 4)) tt

stretched_cross : (s e : Vector) (n : ℕ) → cross (stretched s n) e ≡ cross s e *ℤ pos n
stretched_cross s e n =
    ring (s.u ∷ s.v ∷ e.u ∷ e.v ∷ pos n ∷ []) (minus (times (times (var 0) (var 4)) (var 3)) (times (times (var 1) (var 4)) (var 2)))
    (times (minus (times (var 0) (var 3)) (times (var 1) (var 2))) (var 4)) tt

not_negative : (a b : ℤ) → a ≡ b → pos 0 ≤ℤ b → pos 0 ≤ℤ a
not_negative a b is least = subst (λ z. pos 0 ≤ℤ z) (sym is) least

nothing : pos 0 ≤ℤ pos 0
nothing = nonneg-pos 0

start_swept : (s e : Vector) (n : ℕ) → IsSwept s e (stretched s n)
start_swept s e n = record {
  short = λ ahead. (
    not_negative (cross s (stretched s n)) (pos 0) (cross_itself s n) nothing,
    not_negative (cross (stretched s n) e) (cross s e *ℤ pos n) (stretched_cross s e n) (nonneg-*ℤ (cross s e) (pos n) ahead (nonneg-pos n)),
  );
  long = λ following. inl (not_negative (cross s (stretched s n)) (pos 0) (cross_itself s n) nothing);
}

end_swept : (s e : Vector) (n : ℕ) → IsSwept s e (stretched e n)
end_swept s e n = record {
  short = λ ahead. (
    not_negative (cross s (stretched e n)) (cross s e *ℤ pos n) (cross_stretched s e n) (nonneg-*ℤ (cross s e) (pos n) ahead (nonneg-pos n)),
    not_negative (cross (stretched e n) e) (pos 0) (itself_cross e n) nothing,
  );
  long = λ following. inr (not_negative (cross (stretched e n) e) (pos 0) (itself_cross e n) nothing);
}

-- ---- arcs

radius_below : (radius square n : ℕ) → radius * radius ≤ square → (radius * n) * (radius * n) ≤ square * (n * n)
radius_below radius square n within = omega (arith, mul-le-mul_right (n * n) within)

radius_above : (radius square n : ℕ) → square ≤ radius * radius → square * (n * n) ≤ (radius * n) * (radius * n)
radius_above radius square n within = omega (arith, mul-le-mul_right (n * n) within)

-- a point that is seen in the ring and in the sector, with the other axes between their ends
on_arc : (arc : Arc) (point : Point) (w : Vector) → 0 < point.under → LiesInRing arc w → point_seen arc point ≡ stretched w point.under
    → IsSwept (start_seen arc) (end_seen arc) (stretched w point.under) → All (IsBetween point) arc.ends.axes → IsOnArc arc point
on_arc arc point w some lies is swept all =
    let size : square (point_seen arc point) ≡ square w * (point.under * point.under) = ap square is ∙ stretched_square w point.under in
    record {
      fraction = some;
      from_inner = subst (λ (m : ℕ). (arc.inner * point.under) * (arc.inner * point.under) ≤ m) (sym size) (radius_below arc.inner (square w) point.under lies.from_inner);
      to_outer = subst (λ (m : ℕ). m ≤ (arc.outer * point.under) * (arc.outer * point.under)) (sym size) (radius_above arc.outer (square w) point.under lies.to_outer);
      swept = λ part. subst (λ (p : Vector). IsSwept (start_seen arc) (end_seen arc) p) (sym is) swept;
      others = λ k d within first second. all k d within;
    }

start_on_arc : (arc : Arc) (point : Point) → IsSoundArc arc → 0 < point.under → ArePicked (λ e. e.1) point arc.ends.axes → IsOnArc arc point
start_on_arc arc point sound some starts =
    on_arc arc point (start_seen arc) some (ring_of arc sound).start
    (seen_stretched arc point (start_of arc.ends arc.first) (start_of arc.ends arc.second)
    (picked_at (λ e. e.1) point arc.first arc.ends.axes sound.plane.has_first starts) (picked_at (λ e. e.1) point arc.second arc.ends.axes sound.plane.has_second starts))
    (start_swept (start_seen arc) (end_seen arc) point.under) (starts_between point arc.ends.axes starts)

end_on_arc : (arc : Arc) (point : Point) → IsSoundArc arc → 0 < point.under → ArePicked (λ e. e.2) point arc.ends.axes → IsOnArc arc point
end_on_arc arc point sound some ends =
    on_arc arc point (end_seen arc) some (ring_of arc sound).end
    (seen_stretched arc point (end_of arc.ends arc.first) (end_of arc.ends arc.second)
    (picked_at (λ e. e.2) point arc.first arc.ends.axes sound.plane.has_first ends) (picked_at (λ e. e.2) point arc.second arc.ends.axes sound.plane.has_second ends))
    (end_swept (start_seen arc) (end_seen arc) point.under) (ends_between point arc.ends.axes ends)

-- ---- all motions

-- the point at which every axis starts
pub start_on_path : (motion : Motion) (point : Point) → IsSound motion → 0 < point.under → All (λ e. point.top e.0 ≡ e.1 *ℤ pos point.under) (axes_of motion) → IsOnPath motion point
start_on_path (Line ends) point sound some starts = start_on_line ends point some starts
start_on_path (Rapid ends) point sound some starts = record { fraction = some; between = starts_between point ends.axes starts }
start_on_path (Kind.Arc arc) point sound some starts = start_on_arc arc point sound some starts

-- the point at which every axis ends
pub end_on_path : (motion : Motion) (point : Point) → IsSound motion → 0 < point.under → All (λ e. point.top e.0 ≡ e.2 *ℤ pos point.under) (axes_of motion) → IsOnPath motion point
end_on_path (Line ends) point sound some ended = end_on_line ends point some ended
end_on_path (Rapid ends) point sound some ended = record { fraction = some; between = ends_between point ends.axes ended }
end_on_path (Kind.Arc arc) point sound some ended = end_on_arc arc point sound some ended
