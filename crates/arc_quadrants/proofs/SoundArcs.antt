-- What is known of a sound arc: its start and its end are near its centre and not on it, and its radii are in order and bounded.
use Rattle.std.proofs.Common.{◌≡◌, ◌<◌, ◌≤◌, ◌⊎◌, ℕ, inl, inr, Bool, true, false, Option, Some, None, Ok, refl, ap, sym, subst, arith}
use Rattle.std.proofs.Math.Nat.{mul-le-mul}
use Rattle.std.proofs.lemmas.Bool.Decides.{nat_tests}
use Rattle.std.specs.Int.RustNames.{unsigned_abs}
use Rattle.std.specs.Prelude.{ℤ, ◌&&◌, not, if◌then◌else◌}
use Rattle.number_laws.proofs.Naturals.{le_or_lt}
use Rattle.path_geometry.specs.Arcs.{start_about, end_about, start_seen, end_seen, way_of, arc_with, unless_alarm, radius_alarm, centre_of, place_alarm, arc_placed, arc_of_radius}
use Rattle.path_geometry.specs.Ends.{EndsView}
use Rattle.path_geometry.specs.Motions.{IsAbout, IsOfRadius, IsSoundArc}
use Rattle.path_geometry.specs.Path.{Point, IsOnArc, point_seen}
use Rattle.path_geometry.specs.Vectors.{Vector, square}
use Rattle.path_geometry.specs.declared.motion.Arc.{Arc}
use Rattle.path_geometry.specs.declared.motion.Motion.TheVariants as Kind
use Rattle.path_geometry.proofs.RingLaws.{ring}
use Rattle.arc_quadrants.proofs.Sectors.{IsReached}
use Rattle.micro_units.specs.Position.{is_position, IsPosition}

-- ---- its centre
both_none : (o p : Option ℕ) (a b : Arc) → unless_alarm o (unless_alarm p (Ok (Kind.Arc a))) ≡ Ok (Kind.Arc b) → (p ≡ None) × (a ≡ b)
both_none None None a b h = (refl, cc)
both_none None (Some alarm) a b h = absurd (cc)
both_none (Some alarm) p a b h = absurd (cc)

first_test : (b c : Bool) (n : ℕ) (o : Option ℕ) → (if not (b && c) then Some n else o) ≡ None → (b ≡ true) × (c ≡ true)
first_test true true n o h = (refl, refl)
first_test true false n o h = absurd (cc)
first_test false c n o h = absurd (cc)

in_range : (position : ℤ) → is_position position ≡ true → IsPosition position
in_range position h = grind (arith, nat_tests)

placed_in_range : (centre : ℤ × ℤ) (s e : Vector) → place_alarm centre s e ≡ None → IsPosition centre.0 × IsPosition centre.1
unfolding place_alarm
placed_in_range centre s e h =
    let within = first_test (is_position centre.0) (is_position centre.1) 13 _ h in (in_range centre.0 within.0, in_range centre.1 within.1)

centre_kept : (ends : EndsView) (first second : ℕ) (centre : ℤ × ℤ) (room : ℕ) → (arc_with ends first second centre room).centre ≡ centre
unfolding arc_with
centre_kept ends first second centre room = refl

of_radius_in_range : (arc : Arc) → IsOfRadius arc → IsPosition arc.centre.0 × IsPosition arc.centre.1
unfolding arc_of_radius arc_placed
of_radius_in_range arc made =
    let centre = centre_of arc.ends arc.first arc.second made.radius made.long in
    let found = both_none (radius_alarm (way_of arc.ends arc.first arc.second) made.radius)
    (place_alarm centre (start_about arc.ends arc.first arc.second centre) (end_about arc.ends arc.first arc.second centre))
    (arc_with arc.ends arc.first arc.second centre 2) arc made.gives in
    let same : (arc_with arc.ends arc.first arc.second centre 2).centre ≡ arc.centre = ap (λ (a : Arc). a.centre) found.1 in
    subst (λ (c : ℤ × ℤ). IsPosition c.0 × IsPosition c.1) same
    (subst (λ (c : ℤ × ℤ). IsPosition c.0 × IsPosition c.1) (sym (centre_kept arc.ends arc.first arc.second centre 2))
    (placed_in_range centre (start_about arc.ends arc.first arc.second centre) (end_about arc.ends arc.first arc.second centre) found.0))

pub centre_in_range : (arc : Arc) → IsSoundArc arc → IsPosition arc.centre.0 × IsPosition arc.centre.1
centre_in_range arc sound = by_kind sound.made
  where
    by_kind : IsAbout arc ⊎ IsOfRadius arc → IsPosition arc.centre.0 × IsPosition arc.centre.1
    by_kind (inl about) = about.in_range
    by_kind (inr made) = of_radius_in_range arc made

-- ---- its start and its end
pub start_some : (arc : Arc) → IsSoundArc arc → 0 < square (start_seen arc)
start_some arc sound = (ring arc sound).start.away

pub end_some : (arc : Arc) → IsSoundArc arc → 0 < square (end_seen arc)
end_some arc sound = (ring arc sound).end.away

-- both parts are at most 20,000,000 in size
pub record IsSeen (p : Vector) : Type 0 where
  pub u : unsigned_abs p.u ≤ 20000000
  pub v : unsigned_abs p.v ≤ 20000000

pub start_near : (arc : Arc) → IsSoundArc arc → IsSeen (start_seen arc)
start_near arc sound = record { u = (ring arc sound).start.near_u; v = (ring arc sound).start.near_v }

pub end_near : (arc : Arc) → IsSoundArc arc → IsSeen (end_seen arc)
end_near arc sound = record { u = (ring arc sound).end.near_u; v = (ring arc sound).end.near_v }

-- ---- its radii
pub outer_near : (arc : Arc) → IsSoundArc arc → arc.outer ≤ 28284274
outer_near arc sound = (ring arc sound).small

pub outer_some : (arc : Arc) → IsSoundArc arc → 0 < arc.outer
outer_some arc sound = at_order (le_or_lt arc.outer 0)
  where
    at_order : (arc.outer ≤ 0) ⊎ (0 < arc.outer) → 0 < arc.outer
    at_order (inr less) = less
    at_order (inl none) =
        let away = (ring arc sound).start.away in
        let within = (ring arc sound).start.to_outer in
        absurd (omega (arith, mul-le-mul none none))

pub radii_ordered : (arc : Arc) → IsSoundArc arc → arc.inner ≤ arc.outer
radii_ordered arc sound = (ring arc sound).ordered

-- ---- its sector
pub reached : (arc : Arc) (point : Point) → IsSoundArc arc → IsOnArc arc point → IsReached (start_seen arc) (end_seen arc) (point_seen arc point)
reached arc point sound on = by_full arc.full refl
  where
    by_full : (b : Bool) → arc.full ≡ b → IsReached (start_seen arc) (end_seen arc) (point_seen arc point)
    by_full true is = inr ((ring arc sound).closed is)
    by_full false is = inl (on.swept is)
