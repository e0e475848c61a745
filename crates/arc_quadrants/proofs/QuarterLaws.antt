-- The quarters between two directions: they hold the sector, and each runs ahead between two directions of quadrant 0.
use Rattle.std.proofs.Common.{◌≡◌, ◌∙◌, ◌+◌, ◌-◌, ◌*◌, ◌%◌, ◌==◌, ◌<◌, ◌≤◌, ◌⊎◌, ℕ, zero, suc, inl, inr, Bool, true, false, refl, ap, sym, subst, arith}
use Rattle.std.proofs.lemmas.Bool.{cond_both, eqb-true}
use Rattle.std.proofs.lemmas.Int.{ints}
use Rattle.std.specs.Int.RustNames.{int_lt, unsigned_abs}
use Rattle.std.specs.Prelude.{ℤ, pos, negsuc, ◌-ℤ◌, ◌*ℤ◌, ◌≤ℤ◌, ◌<ℤ◌, if◌then◌else◌}
use Rattle.path_geometry.specs.Vectors.{Vector, cross, square}
use Rattle.arc_quadrants.specs.Quadrants.{turned_back, begin_quadrant, end_quadrant}
use Rattle.arc_quadrants.specs.Quarters.{quadrant_count, quarter_count, sizes, quarter_at, IsNear}
use Rattle.arc_quadrants.proofs.Turns.{cross_turned, turned_twice, begin_is, end_is}
use Rattle.arc_quadrants.proofs.Sectors.{IsWithin, IsReached, IsAtPlace, IsSomewhere, first_axis, second_axis, walked}

-- a direction as a vector
abbrev pub direction : ℕ × ℕ → Vector
direction d = record { u = pos d.0; v = pos d.1 }

size_is : (z : ℤ) → pos 0 ≤ℤ z → pos (unsigned_abs z) ≡ z
size_is z h = omega (arith, ints)

pub direction_sizes : (p : Vector) → pos 0 ≤ℤ p.u → pos 0 ≤ℤ p.v → direction (sizes p) ≡ p
direction_sizes p r u =
    let e : direction (sizes p) ≡ record { u = p.u; v = pos (unsigned_abs p.v) } = ap (λ (z : ℤ). record { u = z; v = pos (unsigned_abs p.v) }) (size_is p.u r) in
    e ∙ ap (λ (z : ℤ). record { u = p.u; v = z }) (size_is p.v u)

-- the direction of a choice
chosen : (b : Bool) (d : ℕ × ℕ) (p : Vector) (f : ℕ × ℕ) → direction d ≡ p → (if b then p else direction f) ≡ direction (if b then d else f)
chosen true d p f e = sym e
chosen false d p f e = refl

-- ---- quarters turned
walked_between : (q e : ℕ) → q < 4 → e < 4 → (q + (e + 4 - q) % 4) % 4 ≡ e
walked_between q e h k = omega arith

turned_on : (q place : ℕ) → q < 4 → (q + place % 4) % 4 ≡ (q + place) % 4
turned_on q place h = omega arith

pub below_four : (n : ℕ) → n % 4 < 4
below_four n = omega arith

turned_to : (e : Vector) (q : ℕ) → q < 4 → end_quadrant e < 4
    → turned_back ((end_quadrant e + 4 - q) % 4) (turned_back q e) ≡ turned_back (end_quadrant e) e
turned_to e q h k =
    turned_twice ((end_quadrant e + 4 - q) % 4) q e (below_four (end_quadrant e + 4 - q)) h
    ∙ ap (λ (n : ℕ). turned_back n e) (walked_between q (end_quadrant e) h k)

turned_reached : (q : ℕ) (s e p : Vector) → IsReached s e p → IsReached (turned_back q s) (turned_back q e) (turned_back q p)
turned_reached q s e p (inr same) = inr (ap (turned_back q) same)
turned_reached q s e p (inl swept) =
    inl (record {
      short = λ h. let b = swept.short (subst (λ (z : ℤ). pos 0 ≤ℤ z) (cross_turned q s e) h) in (
        subst (λ (z : ℤ). pos 0 ≤ℤ z) (sym (cross_turned q s p)) b.0,
        subst (λ (z : ℤ). pos 0 ≤ℤ z) (sym (cross_turned q p e)) b.1,
      );
      long = λ h. one (swept.long (subst (λ (z : ℤ). z <ℤ pos 0) (cross_turned q s e) h));
    })
  where
    one : (pos 0 ≤ℤ cross s p) ⊎ (pos 0 ≤ℤ cross p e)
        → (pos 0 ≤ℤ cross (turned_back q s) (turned_back q p)) ⊎ (pos 0 ≤ℤ cross (turned_back q p) (turned_back q e))
    one (inl h) = inl (subst (λ (z : ℤ). pos 0 ≤ℤ z) (sym (cross_turned q s p)) h)
    one (inr h) = inr (subst (λ (z : ℤ). pos 0 ≤ℤ z) (sym (cross_turned q p e)) h)

-- ---- the sector is covered
abbrev pub LiesIn : ℕ → Vector → Vector → Vector → ℕ → Type 0
LiesIn outer s e p place =
    IsWithin (direction (quarter_at outer s e place).from) (direction (quarter_at outer s e place).to) (turned_back (quarter_at outer s e place).turn p)

at_place : (outer : ℕ) (s e p : Vector) (place : ℕ) → 0 < square s → 0 < square e
    → IsAtPlace outer (turned_back (begin_quadrant s) s) ((end_quadrant e + 4 - begin_quadrant s) % 4) (turned_back (begin_quadrant s) e)
    (turned_back (begin_quadrant s) p) (quarter_count s e) place
    → LiesIn outer s e p place
at_place outer s e p place some_s some_e within =
    let b = begin_is s some_s in
    let n = end_is e some_e in
    let q = begin_quadrant s in
    let first : (if place == 0 then turned_back q s else first_axis outer) ≡ direction (quarter_at outer s e place).from =
    chosen (place == 0) (sizes (turned_back q s)) (turned_back q s) (outer, 0)
    (direction_sizes (turned_back q s) (omega (arith, ints, b.right)) b.up) in
    let last : (if place + 1 == quarter_count s e then turned_back ((end_quadrant e + 4 - q) % 4) (turned_back q e) else second_axis outer)
    ≡ direction (quarter_at outer s e place).to =
    chosen (place + 1 == quarter_count s e) (sizes (turned_back (end_quadrant e) e)) (turned_back ((end_quadrant e + 4 - q) % 4) (turned_back q e)) (0, outer)
    (direction_sizes (turned_back (end_quadrant e) e) n.right (omega (arith, ints, n.up)) ∙ sym (turned_to e q b.quadrant n.quadrant)) in
    let turn : turned_back (place % 4) (turned_back q p) ≡ turned_back ((q + place) % 4) p =
    turned_twice (place % 4) q p (below_four place) b.quadrant ∙ ap (λ (m : ℕ). turned_back m p) (turned_on q place b.quadrant) in
    subst (λ (r : Vector). IsWithin (direction (quarter_at outer s e place).from) (direction (quarter_at outer s e place).to) r) turn
    (subst (λ (t : Vector). IsWithin (direction (quarter_at outer s e place).from) t (turned_back (place % 4) (turned_back q p))) last
    (subst (λ (f : Vector). IsWithin f (if place + 1 == quarter_count s e then turned_back ((end_quadrant e + 4 - q) % 4) (turned_back q e) else second_axis outer) (turned_back (place % 4) (turned_back q p))) first within))

pub sector_covered : (outer : ℕ) (s e p : Vector) → 0 < square s → 0 < square e → IsReached s e p
    → (place : ℕ) × (place < quarter_count s e) × LiesIn outer s e p place
sector_covered outer s e p some_s some_e reached = found somewhere
  where
    found : IsSomewhere outer (turned_back (begin_quadrant s) s) ((end_quadrant e + 4 - begin_quadrant s) % 4) (turned_back (begin_quadrant s) e)
        (turned_back (begin_quadrant s) p) (quarter_count s e)
        → (place : ℕ) × (place < quarter_count s e) × LiesIn outer s e p place
    found (place, less, within) = (place, less, at_place outer s e p place some_s some_e within)

    somewhere : IsSomewhere outer (turned_back (begin_quadrant s) s) ((end_quadrant e + 4 - begin_quadrant s) % 4) (turned_back (begin_quadrant s) e)
        (turned_back (begin_quadrant s) p) (quarter_count s e)
    somewhere =
        let b = begin_is s some_s in
        let n = end_is e some_e in
        let k = (end_quadrant e + 4 - begin_quadrant s) % 4 in
        let to = turned_to e (begin_quadrant s) b.quadrant n.quadrant in
        let far : IsSomewhere outer (turned_back (begin_quadrant s) s) k (turned_back (begin_quadrant s) e) (turned_back (begin_quadrant s) p)
        (quadrant_count k (int_lt (pos 0) (cross (turned_back (begin_quadrant s) s) (turned_back (begin_quadrant s) e)))) =
        walked outer k (turned_back (begin_quadrant s) s) (turned_back (begin_quadrant s) e) (turned_back (begin_quadrant s) p)
        (below_four (end_quadrant e + 4 - begin_quadrant s)) b.right b.up
        (subst (λ (t : Vector). pos 0 ≤ℤ t.u) (sym to) n.right) (subst (λ (t : Vector). pos 1 ≤ℤ t.v) (sym to) n.up)
        (turned_reached (begin_quadrant s) s e p reached) in
        subst
        (λ (z : ℤ). IsSomewhere outer (turned_back (begin_quadrant s) s) k (turned_back (begin_quadrant s) e) (turned_back (begin_quadrant s) p) (quadrant_count k (int_lt (pos 0) z)))
        (cross_turned (begin_quadrant s) s e) far

-- ---- the two directions of a quarter
sizes_near : (j : ℕ) (p : Vector) (far : ℕ) → unsigned_abs p.u ≤ far → unsigned_abs p.v ≤ far
    → ((sizes (turned_back j p)).0 ≤ far) × ((sizes (turned_back j p)).1 ≤ far)
sizes_near zero p far h k = (h, k)
sizes_near (suc zero) p far h k = (k, omega (arith, ints))
sizes_near (suc (suc zero)) p far h k = (omega (arith, ints), omega (arith, ints))
sizes_near (suc (suc (suc n))) p far h k = (omega (arith, ints), h)

pub from_near : (outer far : ℕ) (s e : Vector) (place : ℕ) → 0 < square s → 0 < outer → outer ≤ far
    → unsigned_abs s.u ≤ far → unsigned_abs s.v ≤ far → IsNear far (quarter_at outer s e place).from
from_near outer far s e place some_s some_outer near su sv =
    cond_both (place == 0) (sizes (turned_back (begin_quadrant s) s)) (outer, 0) (IsNear far)
    (λ yes. let b = begin_is s some_s in
    let n = sizes_near (begin_quadrant s) s far su sv in
    record { some = at_least_one (turned_back (begin_quadrant s) s).u (turned_back (begin_quadrant s) s).v b.right; first = n.0; second = n.1 })
    (λ no. record { some = omega arith; first = near; second = omega arith })
  where
    at_least_one : (u v : ℤ) → pos 1 ≤ℤ u → 0 < unsigned_abs u + unsigned_abs v
    at_least_one u v h = omega (arith, ints)

pub to_near : (outer far : ℕ) (s e : Vector) (place : ℕ) → 0 < square e → 0 < outer → outer ≤ far
    → unsigned_abs e.u ≤ far → unsigned_abs e.v ≤ far → IsNear far (quarter_at outer s e place).to
to_near outer far s e place some_e some_outer near eu ev =
    cond_both (place + 1 == quarter_count s e) (sizes (turned_back (end_quadrant e) e)) (0, outer) (IsNear far)
    (λ yes. let b = end_is e some_e in
    let n = sizes_near (end_quadrant e) e far eu ev in
    record { some = at_least_one (turned_back (end_quadrant e) e).u (turned_back (end_quadrant e) e).v b.up; first = n.0; second = n.1 })
    (λ no. record { some = omega arith; first = omega arith; second = near })
  where
    at_least_one : (u v : ℤ) → pos 1 ≤ℤ v → 0 < unsigned_abs u + unsigned_abs v
    at_least_one u v h = omega (arith, ints)

-- with one quarter the end is ahead of the start in its quadrant
entered_one : (k : ℕ) (b : Bool) → quadrant_count k b ≡ 1 → (k ≡ 0) × (b ≡ true)
entered_one zero true h = (refl, refl)
entered_one zero false h = absurd (omega arith)
entered_one (suc k) b h = absurd (omega arith)

quadrants_same : (q e : ℕ) → q < 4 → e < 4 → (e + 4 - q) % 4 ≡ 0 → e ≡ q
quadrants_same q e h k z = omega arith

-- b is not after a
abbrev pub RunsAhead : ℕ × ℕ → ℕ × ℕ → Type 0
RunsAhead a b = a.1 * b.0 ≤ a.0 * b.1

ahead_by_cross : (s e : Vector) → pos 0 ≤ℤ s.u → pos 0 ≤ℤ s.v → pos 0 ≤ℤ e.u → pos 0 ≤ℤ e.v → pos 0 ≤ℤ cross s e → RunsAhead (sizes s) (sizes e)
ahead_by_cross s e su sv eu ev h = by_parts s.u s.v e.u e.v su sv eu ev h
  where
    by_parts : (a b c d : ℤ) → pos 0 ≤ℤ a → pos 0 ≤ℤ b → pos 0 ≤ℤ c → pos 0 ≤ℤ d → pos 0 ≤ℤ ((a *ℤ d) -ℤ (b *ℤ c))
        → unsigned_abs b * unsigned_abs c ≤ unsigned_abs a * unsigned_abs d
    by_parts (pos a) (pos b) (pos c) (pos d) p q r t h = omega (arith, ints)
    by_parts (negsuc a) b c d p q r t h = absurd (omega (arith, ints))
    by_parts (pos a) (negsuc b) c d p q r t h = absurd (omega (arith, ints))
    by_parts (pos a) (pos b) (negsuc c) d p q r t h = absurd (omega (arith, ints))
    by_parts (pos a) (pos b) (pos c) (negsuc d) p q r t h = absurd (omega (arith, ints))

one_runs_ahead : (s e : Vector) → 0 < square s → 0 < square e → quarter_count s e ≡ 1
    → RunsAhead (sizes (turned_back (begin_quadrant s) s)) (sizes (turned_back (end_quadrant e) e))
one_runs_ahead s e some_s some_e one =
    let b = begin_is s some_s in
    let n = end_is e some_e in
    let both = entered_one ((end_quadrant e + 4 - begin_quadrant s) % 4) (int_lt (pos 0) (cross s e)) one in
    let same : end_quadrant e ≡ begin_quadrant s = quadrants_same (begin_quadrant s) (end_quadrant e) b.quadrant n.quadrant both.0 in
    let ahead : int_lt (pos 0) (cross s e) ≡ true = both.1 in
    let turned : cross (turned_back (begin_quadrant s) s) (turned_back (end_quadrant e) e) ≡ cross s e =
    ap (λ (m : ℕ). cross (turned_back (begin_quadrant s) s) (turned_back m e)) same ∙ cross_turned (begin_quadrant s) s e in
    ahead_by_cross (turned_back (begin_quadrant s) s) (turned_back (end_quadrant e) e) (omega (arith, ints, b.right)) b.up n.right (omega (arith, ints, n.up))
    (subst (λ (z : ℤ). pos 0 ≤ℤ z) (sym turned) (is_ahead (cross s e) ahead))
  where
    is_ahead : (z : ℤ) → int_lt (pos 0) z ≡ true → pos 0 ≤ℤ z
    is_ahead z h = grind (arith, ints)

pub runs_ahead : (outer : ℕ) (s e : Vector) (place : ℕ) → 0 < square s → 0 < square e
    → RunsAhead (quarter_at outer s e place).from (quarter_at outer s e place).to
runs_ahead outer s e place some_s some_e =
    cond_both (place == 0) (sizes (turned_back (begin_quadrant s) s)) (outer, 0) (λ a. RunsAhead a (quarter_at outer s e place).to)
    (λ first. cond_both (place + 1 == quarter_count s e) (sizes (turned_back (end_quadrant e) e)) (0, outer)
    (λ b. RunsAhead (sizes (turned_back (begin_quadrant s) s)) b)
    (λ last. let zeroth : place ≡ 0 = eqb-true place 0 first in
    let count : place + 1 ≡ quarter_count s e = eqb-true (place + 1) (quarter_count s e) last in
    one_runs_ahead s e some_s some_e (omega arith))
    (λ no. omega arith))
    (λ no. cond_both (place + 1 == quarter_count s e) (sizes (turned_back (end_quadrant e) e)) (0, outer) (λ b. RunsAhead (outer, 0) b)
    (λ last. omega arith) (λ other. omega arith))
