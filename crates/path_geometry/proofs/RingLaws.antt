-- Every sound arc runs in a ring.
use Rattle.std.proofs.Common.{◌≡◌, ℕ, zero, suc, ℤ, ◌+◌, ◌-◌, ◌*◌, ◌<◌, ◌≤◌, ◌==◌, ◌&&◌, ◌||◌, ◌-ℤ◌, not, unsigned_abs, min, max, Bool, true, false, Option, None, Some, Ok, if◌then◌else◌, inl, inr, refl, ap, subst, arith, eqb-true, leb-true, ap₂}
use Rattle.number_laws.proofs.Naturals.{from_squares}
use Rattle.std.proofs.lemmas.Int.{ints}
use Rattle.std.proofs.Math.Nat.{mul-le-mul, le_trans}
use Rattle.micro_units.specs.Root.{floor_root, ceil_root}
use Rattle.path_geometry.specs.Arcs.{start_about, end_about, way_of, arc_with, unless_alarm, has_no_radius, centre_alarm, arc_about, centre_of, place_alarm, arc_placed, arc_of_radius}
use Rattle.path_geometry.specs.Ends.{EndsView, start_of, end_of}
use Rattle.path_geometry.specs.Motions.{AreSound, IsSoundArc, IsAbout, IsOfRadius}
use Rattle.path_geometry.specs.Rings.{IsInRing}
use Rattle.path_geometry.specs.Vectors.{Vector, square}
use Rattle.path_geometry.specs.declared.motion.Arc.{Arc}
use Rattle.path_geometry.specs.declared.motion.Motion.TheVariants as Kind
use Rattle.path_geometry.proofs.EndsLaws.{start_in_range, end_in_range}
use Rattle.path_geometry.proofs.RadiusLaws.{ceil_root-small, root-below, root-above}
use Rattle.micro_units.specs.Position.{is_position, IsPosition}

-- two positions in range are apart by at most twice the range
apart : (a b : ℤ) → IsPosition a → IsPosition b → unsigned_abs (a -ℤ b) ≤ 20000000
apart a b near close = omega (arith, ints)

square_small : (w : Vector) → unsigned_abs w.u ≤ 20000000 → unsigned_abs w.v ≤ 20000000 → square w ≤ 800000000000000
square_small w u v = omega (arith, mul-le-mul u u, mul-le-mul v v)

-- a number whose square is 0 is 0
no_size : (a b : ℤ) → unsigned_abs (a -ℤ b) * unsigned_abs (a -ℤ b) ≡ 0 → b ≡ a
no_size a b e = by_size (unsigned_abs (a -ℤ b)) refl e
  where
    by_size : (n : ℕ) → unsigned_abs (a -ℤ b) ≡ n → n * n ≡ 0 → b ≡ a
    by_size zero f e = omega (arith, ints)
    by_size (suc n) f e = absurd (omega arith)

same_vector : (a b c d : ℤ) → a ≡ b → c ≡ d → ◌≡◌ {A = Vector} (record { u = a; v = c }) (record { u = b; v = d })
same_vector a b c d e f = ap₂ (λ (x y : ℤ). let w : Vector = record { u = x; v = y } in w) e f

-- with no way to go the start and the end are one
closed_at : (ends : EndsView) (first second : ℕ) (centre : ℤ × ℤ) → (square (way_of ends first second) == 0) ≡ true → start_about ends first second centre ≡ end_about ends first second centre
closed_at ends first second centre still =
    let none = eqb-true (square (way_of ends first second)) 0 still in
    same_vector _ _ _ _
    (ap (λ (x : ℤ). x -ℤ centre.0) (no_size (end_of ends first) (start_of ends first) (omega arith)))
    (ap (λ (x : ℤ). x -ℤ centre.1) (no_size (end_of ends second) (start_of ends second) (omega arith)))

not_zero : (m n : ℕ) → ((m == 0) || (n == 0)) ≡ false → (0 < m) × (0 < n)
not_zero zero n e = absurd cc
not_zero (suc m) zero e = absurd (grind arith)
not_zero (suc m) (suc n) e = (omega arith, omega arith)

-- the radii about two squares hold both
inner_first : (m n room : ℕ) → (floor_root (min m n) - room) * (floor_root (min m n) - room) ≤ m
inner_first m n room = let e = root-below (min m n) room in omega arith

inner_second : (m n room : ℕ) → (floor_root (min m n) - room) * (floor_root (min m n) - room) ≤ n
inner_second m n room = let e = root-below (min m n) room in omega arith

outer_first : (m n room : ℕ) → m ≤ (ceil_root (max m n) + room) * (ceil_root (max m n) + room)
outer_first m n room = le_trans (omega arith) (root-above (max m n) room)

outer_second : (m n room : ℕ) → n ≤ (ceil_root (max m n) + room) * (ceil_root (max m n) + room)
outer_second m n room = le_trans (omega arith) (root-above (max m n) room)

radii_ordered : (m n room : ℕ) → floor_root (min m n) - room ≤ ceil_root (max m n) + room
radii_ordered m n room = from_squares (floor_root (min m n) - room) (ceil_root (max m n) + room) (le_trans (inner_first m n room) (outer_first m n room))

outer_small : (m n room : ℕ) → m ≤ 800000000000000 → n ≤ 800000000000000 → room ≤ 2 → ceil_root (max m n) + room ≤ 28284274
outer_small m n room p q r = let e = ceil_root-small (max m n) (omega arith) in omega arith

-- the arc about a centre that is not its start and not its end
pub ring_with : (ends : EndsView) (first second : ℕ) (centre : ℤ × ℤ) (room : ℕ) → AreSound ends → IsPosition centre.0 × IsPosition centre.1 → room ≤ 2
    → has_no_radius (start_about ends first second centre) (end_about ends first second centre) ≡ false → IsInRing (arc_with ends first second centre room)
unfolding arc_with
ring_with ends first second centre room sound near few radii =
    let s = start_about ends first second centre in
    let e = end_about ends first second centre in
    let away = not_zero (square s) (square e) radii in
    let su : unsigned_abs s.u ≤ 20000000 = apart (start_of ends first) centre.0 (start_in_range ends first sound) near.0 in
    let sv : unsigned_abs s.v ≤ 20000000 = apart (start_of ends second) centre.1 (start_in_range ends second sound) near.1 in
    let eu : unsigned_abs e.u ≤ 20000000 = apart (end_of ends first) centre.0 (end_in_range ends first sound) near.0 in
    let ev : unsigned_abs e.v ≤ 20000000 = apart (end_of ends second) centre.1 (end_in_range ends second sound) near.1 in
    record {
      start = record { near_u = su; near_v = sv; away = away.0; from_inner = inner_first (square s) (square e) room; to_outer = outer_first (square s) (square e) room };
      end = record { near_u = eu; near_v = ev; away = away.1; from_inner = inner_second (square s) (square e) room; to_outer = outer_second (square s) (square e) room };
      ordered = radii_ordered (square s) (square e) room;
      small = outer_small (square s) (square e) room (square_small s su sv) (square_small e eu ev) few;
      closed = closed_at ends first second centre;
    }

-- an answer that is a motion had no alarm before it
unless_ok : (o : Option ℕ) (arc other : Arc) → unless_alarm o (Ok (Kind.Arc arc)) ≡ Ok (Kind.Arc other) → (o ≡ None) × (arc ≡ other)
unless_ok None arc other e = let same : arc ≡ other = cc in (refl, same)
unless_ok (Some alarm) arc other e = absurd cc

no_alarm_here : (b : Bool) (alarm : ℕ) (rest : Option ℕ) → (if b then Some alarm else rest) ≡ None → (b ≡ false) × (rest ≡ None)
no_alarm_here true alarm rest e = absurd cc
no_alarm_here false alarm rest e = (refl, e)

radii_about : (full : Bool) (s e : Vector) → centre_alarm full s e ≡ None → has_no_radius s e ≡ false
unfolding centre_alarm
radii_about full s e none = (no_alarm_here (has_no_radius s e) 22 _ none).0

both_hold : (b c : Bool) → not (b && c) ≡ false → (b ≡ true) × (c ≡ true)
both_hold true true e = (refl, refl)
both_hold true false e = absurd cc
both_hold false c e = absurd cc

placed_well : (centre : ℤ × ℤ) (s e : Vector) → place_alarm centre s e ≡ None → (IsPosition centre.0 × IsPosition centre.1) × (has_no_radius s e ≡ false)
unfolding place_alarm
placed_well centre s e none =
    let range = no_alarm_here (not (is_position centre.0 && is_position centre.1)) 13 _ none in
    let both = both_hold (is_position centre.0) (is_position centre.1) range.0 in
    ((leb-true (unsigned_abs centre.0) 10000000 both.0, leb-true (unsigned_abs centre.1) 10000000 both.1), (no_alarm_here (has_no_radius s e) 22 None range.1).0)

ring_about : (arc : Arc) → AreSound arc.ends → IsAbout arc → IsInRing arc
unfolding arc_about
ring_about arc sound about =
    let made = unless_ok _ _ arc about.gives in
    subst IsInRing made.1 (ring_with arc.ends arc.first arc.second arc.centre 0 sound about.in_range (omega arith) (radii_about _ _ _ made.0))

second_alarm : (o p : Option ℕ) (arc other : Arc) → unless_alarm o (unless_alarm p (Ok (Kind.Arc arc))) ≡ Ok (Kind.Arc other) → (p ≡ None) × (arc ≡ other)
second_alarm None p arc other e = unless_ok p arc other e
second_alarm (Some alarm) p arc other e = absurd cc

ring_of_radius : (arc : Arc) → AreSound arc.ends → IsOfRadius arc → IsInRing arc
unfolding arc_of_radius arc_placed
ring_of_radius arc sound by =
    let made = second_alarm _ _ _ arc by.gives in
    let centre = centre_of arc.ends arc.first arc.second by.radius by.long in
    let well = placed_well centre (start_about arc.ends arc.first arc.second centre) (end_about arc.ends arc.first arc.second centre) made.0 in
    subst IsInRing made.1 (ring_with arc.ends arc.first arc.second centre 2 sound well.0 (omega arith) well.1)

pub ring : (arc : Arc) → IsSoundArc arc → IsInRing arc
ring arc sound = elim sound.made [ inl about ↦ ring_about arc sound.ends about | inr by ↦ ring_of_radius arc sound.ends by ]
