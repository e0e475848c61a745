-- The bounds of the parts of a quarter: they hold the ring between the two directions, and lie within those of the quarter.
use Rattle.std.proofs.Common.{◌≡◌, ◌∙◌, ◌+◌, ◌*◌, ◌<◌, ◌≤◌, ℕ, zero, suc, get_or, refl, ap, sym, subst, arith}
use Rattle.std.proofs.Math.Nat.{mul-le-mul_left}
use Rattle.std.proofs.lemmas.Int.{ints}
use Rattle.std.specs.Int.RustNames.{unsigned_abs}
use Rattle.std.specs.List.{All, Any}
use Rattle.std.specs.Prelude.{ℤ, pos, neg_ℤ, ◌≤ℤ◌}
use Rattle.number_laws.proofs.Naturals.{square_above}
use Rattle.path_geometry.specs.Vectors.{Vector, cross, square}
use Rattle.arc_quadrants.specs.Bounds.{length_square, Bounds, bounds_between, IsBound}
use Rattle.arc_quadrants.specs.Halves.{halves}
use Rattle.arc_quadrants.specs.Quadrants.{turned_back}
use Rattle.arc_quadrants.specs.Quarters.{sizes, quarter_count, quarter_at}
use Rattle.arc_quadrants.proofs.HalfLaws.{IsAmong, IsMix, some_half, halves_within, mix_ahead, mix_after}
use Rattle.arc_quadrants.proofs.QuarterLaws.{direction, direction_sizes, LiesIn, RunsAhead, sector_covered, from_near, to_near}
use Rattle.arc_quadrants.proofs.ReachLaws.{reach_down_is, reach_up_is}
use Rattle.arc_quadrants.proofs.Reaches.{upper, lower, slope, up_mono, down_mono}
use Rattle.arc_quadrants.proofs.Sectors.{IsWithin, IsReached}

pub some_length : (d : ℕ × ℕ) → 0 < d.0 + d.1 → 0 < length_square d
some_length d h = omega (arith, square_above d.0, square_above d.1)

-- ---- the ring between two directions
sides_at_most : (m p q i : ℕ) → (m * m) * (p * p + q * q) ≤ i → (m * m) * (q * q + p * p) ≤ i
sides_at_most m p q i h = omega arith

sides_at_least : (m p q i : ℕ) → i ≤ (m * m) * (p * p + q * q) → i ≤ (m * m) * (q * q + p * p)
sides_at_least m p q i h = omega arith

pub bounded : (inner outer n : ℕ) (d : (ℕ × ℕ) × (ℕ × ℕ)) (x y : ℕ) → IsAmong x y d → 0 < length_square d.0 → 0 < length_square d.1
    → (inner * n) * (inner * n) ≤ x * x + y * y → x * x + y * y ≤ (outer * n) * (outer * n)
    → IsBound (bounds_between inner outer d.0 d.1) (direction (x, y)) n
bounded inner outer n d x y among some_a some_b beyond within =
    let a = d.0 in
    let b = d.1 in
    let bounds = bounds_between inner outer a b in
    let u_low : bounds.u_low * n ≤ x =
    lower b.0 b.1 x y inner bounds.u_low n among.following (omega arith) (reach_down_is inner b.0 (length_square b) some_b).at_most some_b in
    let u_high : x ≤ bounds.u_high * n =
    upper a.0 a.1 x y outer bounds.u_high n among.ahead (omega arith) (reach_up_is outer a.0 (length_square a) some_a).at_least some_a in
    let v_low : bounds.v_low * n ≤ y =
    lower a.1 a.0 y x inner bounds.v_low n (omega (arith, among.ahead)) (omega arith)
    (sides_at_most bounds.v_low a.0 a.1 ((inner * inner) * (a.1 * a.1)) (reach_down_is inner a.1 (length_square a) some_a).at_most) (omega arith) in
    let v_high : y ≤ bounds.v_high * n =
    upper b.1 b.0 y x outer bounds.v_high n (omega (arith, among.following)) (omega arith)
    (sides_at_least bounds.v_high b.0 b.1 ((outer * outer) * (b.1 * b.1)) (reach_up_is outer b.1 (length_square b) some_b).at_least) (omega arith) in
    record {
      on_u = record { above = omega (arith, ints); below = omega (arith, ints) };
      on_v = record { above = omega (arith, ints); below = omega (arith, ints) };
    }

-- ---- the same of a quarter of an arc
among_from : (a b : ℕ × ℕ) (x y : ℕ) → IsWithin (direction a) (direction b) (direction (x, y)) → IsAmong x y (a, b)
among_from a b x y within =
    let l : pos 0 ≤ℤ cross (direction a) (direction (x, y)) = within.ahead in
    let r : pos 0 ≤ℤ cross (direction (x, y)) (direction b) = within.following in
    record { ahead = omega (arith, ints); following = omega (arith, ints) }

size_of_neg : (z : ℤ) → unsigned_abs (neg_ℤ z) ≡ unsigned_abs z
size_of_neg z = omega (arith, ints)

by_sizes : (u v w : ℕ) → w ≡ u → v * v + w * w ≡ u * u + v * v
by_sizes u v w e = rw e (omega arith)

by_other : (u v w : ℕ) → w ≡ v → w * w + u * u ≡ u * u + v * v
by_other u v w e = rw e (omega arith)

square_turned : (j : ℕ) (p : Vector) → square (turned_back j p) ≡ square p
square_turned zero p = refl
square_turned (suc zero) p = by_sizes (unsigned_abs p.u) (unsigned_abs p.v) (unsigned_abs (neg_ℤ p.u)) (size_of_neg p.u)
square_turned (suc (suc zero)) p = ap (λ (n : ℕ). n * n + unsigned_abs (neg_ℤ p.v) * unsigned_abs (neg_ℤ p.v)) (size_of_neg p.u)
    ∙ ap (λ (n : ℕ). unsigned_abs p.u * unsigned_abs p.u + n * n) (size_of_neg p.v)
square_turned (suc (suc (suc n))) p = by_other (unsigned_abs p.u) (unsigned_abs p.v) (unsigned_abs (neg_ℤ p.v)) (size_of_neg p.v)

-- every vector of the sector between the radii is within the bounds of some part of some quarter
abbrev pub IsHeld : ℕ → ℕ → ℕ → Vector → Vector → Vector → ℕ → ℕ → Type 0
IsHeld depth inner outer s e p n place =
    Any (λ d. IsBound (bounds_between inner outer d.0 d.1) (turned_back (quarter_at outer s e place).turn p) n)
    (halves depth (quarter_at outer s e place).from (quarter_at outer s e place).to)

-- the directions of a part are no less than one of the quarter's
mix_some : (a b c : ℕ × ℕ) → 0 < a.0 + a.1 → 0 < b.0 + b.1 → IsMix a b c → 0 < c.0 + c.1
mix_some a b c some_a some_b m =
    let p : 1 ≤ a.0 + a.1 = omega arith in
    let q : 1 ≤ b.0 + b.1 = omega arith in
    rw (m.first, m.second) (omega (arith, mul-le-mul_left m.i p, mul-le-mul_left m.j q, m.some))

held_by : (depth inner outer n x y : ℕ) (a b : ℕ × ℕ) → 0 < a.0 + a.1 → 0 < b.0 + b.1 → IsAmong x y (a, b)
    → (inner * n) * (inner * n) ≤ x * x + y * y → x * x + y * y ≤ (outer * n) * (outer * n)
    → Any (λ d. IsBound (bounds_between inner outer d.0 d.1) (direction (x, y)) n) (halves depth a b)
held_by depth inner outer n x y a b some_a some_b among beyond within = at_part (some_half depth a b x y among)
  where
    at_part : Any (IsAmong x y) (halves depth a b) → Any (λ d. IsBound (bounds_between inner outer d.0 d.1) (direction (x, y)) n) (halves depth a b)
    at_part (k, d, less, at, is) =
        let mixed : IsMix a b d.0 × IsMix a b d.1 = subst (λ (h : (ℕ × ℕ) × (ℕ × ℕ)). IsMix a b h.0 × IsMix a b h.1) at (halves_within depth a b k d less) in (
          k,
          d,
          less,
          at,
          bounded inner outer n d x y is (some_length d.0 (mix_some a b d.0 some_a some_b mixed.0)) (some_length d.1 (mix_some a b d.1 some_a some_b mixed.1)) beyond within,
        )

held_at : (depth inner outer n : ℕ) (a b : ℕ × ℕ) (p : Vector) → 0 < a.0 + a.1 → 0 < b.0 + b.1 → IsWithin (direction a) (direction b) p
    → (inner * n) * (inner * n) ≤ square p → square p ≤ (outer * n) * (outer * n)
    → Any (λ d. IsBound (bounds_between inner outer d.0 d.1) p n) (halves depth a b)
held_at depth inner outer n a b p some_a some_b is beyond within =
    let e : direction (sizes p) ≡ p = direction_sizes p is.right is.up in
    let among = among_from a b (unsigned_abs p.u) (unsigned_abs p.v) (subst (λ (r : Vector). IsWithin (direction a) (direction b) r) (sym e) is) in
    subst (λ (r : Vector). Any (λ d. IsBound (bounds_between inner outer d.0 d.1) r n) (halves depth a b)) e
    (held_by depth inner outer n (unsigned_abs p.u) (unsigned_abs p.v) a b some_a some_b among beyond within)

-- no quarter begins or ends in a direction without length
pub from_some : (outer : ℕ) (s e : Vector) (place : ℕ) → 0 < square s → 0 < outer → 0 < (quarter_at outer s e place).from.0 + (quarter_at outer s e place).from.1
from_some outer s e place some_s some_outer =
    (from_near outer (outer + unsigned_abs s.u + unsigned_abs s.v) s e place some_s some_outer (omega arith) (omega arith) (omega arith)).some

pub to_some : (outer : ℕ) (s e : Vector) (place : ℕ) → 0 < square e → 0 < outer → 0 < (quarter_at outer s e place).to.0 + (quarter_at outer s e place).to.1
to_some outer s e place some_e some_outer =
    (to_near outer (outer + unsigned_abs e.u + unsigned_abs e.v) s e place some_e some_outer (omega arith) (omega arith) (omega arith)).some

pub sector_held : (depth inner outer : ℕ) (s e p : Vector) (n : ℕ) → 0 < square s → 0 < square e → 0 < outer → IsReached s e p
    → (inner * n) * (inner * n) ≤ square p → square p ≤ (outer * n) * (outer * n)
    → (place : ℕ) × (place < quarter_count s e) × IsHeld depth inner outer s e p n place
sector_held depth inner outer s e p n some_s some_e some_outer reached beyond within = at_quarter (sector_covered outer s e p some_s some_e reached)
  where
    at_quarter : (place : ℕ) × (place < quarter_count s e) × LiesIn outer s e p place
        → (place : ℕ) × (place < quarter_count s e) × IsHeld depth inner outer s e p n place
    at_quarter (place, less, is) =
        let q = quarter_at outer s e place in
        let same : square (turned_back q.turn p) ≡ square p = square_turned q.turn p in (
          place,
          less,
          held_at depth inner outer n q.from q.to (turned_back q.turn p) (from_some outer s e place some_s some_outer) (to_some outer s e place some_e some_outer) is
              (subst (λ (m : ℕ). (inner * n) * (inner * n) ≤ m) (sym same) beyond) (subst (λ (m : ℕ). m ≤ (outer * n) * (outer * n)) (sym same) within),
        )

-- ---- the bounds of a part lie within those of the quarter
pub record LieWithin (inner outer : Bounds) : Type 0 where
  pub u_low : outer.u_low ≤ inner.u_low
  pub u_high : inner.u_high ≤ outer.u_high
  pub v_low : outer.v_low ≤ inner.v_low
  pub v_high : inner.v_high ≤ outer.v_high

slope_turned : (au av cu cv : ℕ) → av * cu ≤ au * cv → (av * av) * (cu * cu + cv * cv) ≤ (cv * cv) * (au * au + av * av)
slope_turned au av cu cv h = omega (arith, slope au av cu cv h)

pub bounds_nest : (inner outer : ℕ) (a b c d : ℕ × ℕ) → 0 < length_square a → 0 < length_square b → 0 < length_square c → 0 < length_square d
    → RunsAhead a c → RunsAhead d b → LieWithin (bounds_between inner outer c d) (bounds_between inner outer a b)
bounds_nest inner outer a b c d some_a some_b some_c some_d begins ends =
    record {
      u_low = down_mono (bounds_between inner outer a b).u_low (bounds_between inner outer c d).u_low inner b.0 d.0 (length_square b) (length_square d) some_b some_d
          (slope d.0 d.1 b.0 b.1 ends) (reach_down_is inner b.0 (length_square b) some_b) (reach_down_is inner d.0 (length_square d) some_d);
      u_high = up_mono (bounds_between inner outer a b).u_high (bounds_between inner outer c d).u_high outer a.0 c.0 (length_square a) (length_square c) some_a
          (slope a.0 a.1 c.0 c.1 begins) (reach_up_is outer a.0 (length_square a) some_a) (reach_up_is outer c.0 (length_square c) some_c);
      v_low = down_mono (bounds_between inner outer a b).v_low (bounds_between inner outer c d).v_low inner a.1 c.1 (length_square a) (length_square c) some_a some_c
          (slope_turned a.0 a.1 c.0 c.1 begins) (reach_down_is inner a.1 (length_square a) some_a) (reach_down_is inner c.1 (length_square c) some_c);
      v_high = up_mono (bounds_between inner outer a b).v_high (bounds_between inner outer c d).v_high outer b.1 d.1 (length_square b) (length_square d) some_b
          (slope_turned d.0 d.1 b.0 b.1 ends) (reach_up_is outer b.1 (length_square b) some_b) (reach_up_is outer d.1 (length_square d) some_d);
    }

pub halves_nest : (depth inner outer : ℕ) (a b : ℕ × ℕ) → 0 < a.0 + a.1 → 0 < b.0 + b.1 → RunsAhead a b
    → All (λ d. LieWithin (bounds_between inner outer d.0 d.1) (bounds_between inner outer a b)) (halves depth a b)
halves_nest depth inner outer a b some_a some_b ahead k d less =
    let h = get_or (halves depth a b) k d in
    let mixed : IsMix a b h.0 × IsMix a b h.1 = halves_within depth a b k d less in
    bounds_nest inner outer a b h.0 h.1 (some_length a some_a) (some_length b some_b)
    (some_length h.0 (mix_some a b h.0 some_a some_b mixed.0)) (some_length h.1 (mix_some a b h.1 some_a some_b mixed.1))
    (mix_ahead a b h.0 ahead mixed.0) (mix_after a b h.1 ahead mixed.1)
