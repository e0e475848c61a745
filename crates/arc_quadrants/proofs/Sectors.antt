-- Each vector of the sector from s to e lies in one of the quadrants walked, between the two directions of the quarter there.
use Rattle.std.proofs.Common.{◌≡◌, ◌∙◌, ◌<◌, ◌+◌, ◌%◌, ◌==◌, ◌⊎◌, ℕ, zero, suc, inl, inr, Bool, true, false, [], ◌∷◌, refl, sym, subst, arith}
use Rattle.std.proofs.lemmas.Int.{ints}
use Rattle.std.specs.Int.RustNames.{int_lt}
use Rattle.std.specs.Prelude.{ℤ, pos, neg_ℤ, ◌-ℤ◌, ◌*ℤ◌, ◌≤ℤ◌, ◌<ℤ◌, if◌then◌else◌}
use Rattle.number_laws.proofs.Integers.{sign_of, nonneg-*ℤ, nonneg-pos}
use Rattle.number_laws.proofs.Ring.{var, minus, times, negate, ring}
use Rattle.arc_quadrants.specs.Quadrants.{turned_back}
use Rattle.arc_quadrants.specs.Quarters.{quadrant_count}
use Rattle.path_geometry.specs.Path.{IsSwept}
use Rattle.path_geometry.specs.Vectors.{Vector, cross}
use Rattle.arc_quadrants.proofs.SectorSigns.{not_below, not_below_left, ahead_above, after_below, not_right, not_above, right_within, above_within}
use Rattle.arc_quadrants.proofs.Turns.{cross_turned}

-- p lies in quadrant 0 between two directions
pub record IsWithin (from to p : Vector) : Type 0 where
  pub right : pos 0 ≤ℤ p.u
  pub up : pos 0 ≤ℤ p.v
  pub ahead : pos 0 ≤ℤ cross from p
  pub following : pos 0 ≤ℤ cross p to

-- the two axes of quadrant 0 as directions
abbrev pub first_axis : ℕ → Vector
first_axis outer = record { u = pos outer; v = pos 0 }

abbrev pub second_axis : ℕ → Vector
second_axis outer = record { u = pos 0; v = pos outer }

first_ahead : (outer : ℕ) (p : Vector) → pos 0 ≤ℤ p.v → pos 0 ≤ℤ cross (first_axis outer) p
first_ahead outer p h =
    let e : cross (first_axis outer) p ≡ pos outer *ℤ p.v = omega (arith, ints) in
    subst (λ (z : ℤ). pos 0 ≤ℤ z) (sym e) (nonneg-*ℤ (pos outer) p.v (nonneg-pos outer) h)

second_after : (outer : ℕ) (p : Vector) → pos 0 ≤ℤ p.u → pos 0 ≤ℤ cross p (second_axis outer)
second_after outer p h =
    let e : cross p (second_axis outer) ≡ p.u *ℤ pos outer = omega (arith, ints) in
    subst (λ (z : ℤ). pos 0 ≤ℤ z) (sym e) (nonneg-*ℤ p.u (pos outer) h (nonneg-pos outer))

whole_quarter : (outer : ℕ) (p : Vector) → pos 0 ≤ℤ p.u → pos 0 ≤ℤ p.v → IsWithin (first_axis outer) (second_axis outer) p
whole_quarter outer p r u = record { right = r; up = u; ahead = first_ahead outer p u; following = second_after outer p r }

from_start : (outer : ℕ) (s p : Vector) → pos 0 ≤ℤ p.u → pos 0 ≤ℤ p.v → pos 0 ≤ℤ cross s p → IsWithin s (second_axis outer) p
from_start outer s p r u ahead = record { right = r; up = u; ahead = ahead; following = second_after outer p r }

to_end : (outer k : ℕ) (e p : Vector) → pos 0 ≤ℤ (turned_back k p).u → pos 0 ≤ℤ (turned_back k p).v → pos 0 ≤ℤ cross p e
    → IsWithin (first_axis outer) (turned_back k e) (turned_back k p)
to_end outer k e p r u following =
    record {
      right = r;
      up = u;
      ahead = first_ahead outer (turned_back k p) u;
      following = subst (λ (z : ℤ). pos 0 ≤ℤ z) (sym (cross_turned k p e)) following;
    }

-- ---- the walk that begins in quadrant 0 and ends in quadrant k
-- p lies in the quarter at a place among so many: the first is cut at s and the last at e
abbrev pub IsAtPlace : ℕ → Vector → ℕ → Vector → Vector → ℕ → ℕ → Type 0
IsAtPlace outer s k e p count place =
    IsWithin (if place == 0 then s else first_axis outer) (if place + 1 == count then turned_back k e else second_axis outer) (turned_back (place % 4) p)

abbrev pub IsSomewhere : ℕ → Vector → ℕ → Vector → Vector → ℕ → Type 0
IsSomewhere outer s k e p count = (place : ℕ) × (place < count) × IsAtPlace outer s k e p count place

-- what is swept: the sector, or everything where the start is the end
abbrev pub IsReached : Vector → Vector → Vector → Type 0
IsReached s e p = IsSwept s e p ⊎ (s ≡ e)

cross_swap : (s p : Vector) → cross s p <ℤ pos 0 → pos 0 ≤ℤ cross p s
cross_swap s p h =
    let e : cross p s ≡ neg_ℤ (cross s p) =
    ring (s.u ∷ s.v ∷ p.u ∷ p.v ∷ []) (minus (times (var 2) (var 1)) (times (var 3) (var 0)))
    (negate (minus (times (var 0) (var 3)) (times (var 1) (var 2)))) tt in
    subst (λ (z : ℤ). pos 0 ≤ℤ z) (sym e) (omega (arith, ints))

-- in each case p is ahead of s or after e
one_of : (s e p : Vector) → IsReached s e p → (pos 0 ≤ℤ cross s p) ⊎ (pos 0 ≤ℤ cross p e)
one_of s e p (inl swept) = by_turn (sign_of (cross s e))
  where
    by_turn : (pos 0 ≤ℤ cross s e) ⊎ (cross s e <ℤ pos 0) → (pos 0 ≤ℤ cross s p) ⊎ (pos 0 ≤ℤ cross p e)
    by_turn (inl h) = inl (swept.short h).0
    by_turn (inr h) = swept.long h
one_of s e p (inr same) = by_side (sign_of (cross s p))
  where
    by_side : (pos 0 ≤ℤ cross s p) ⊎ (cross s p <ℤ pos 0) → (pos 0 ≤ℤ cross s p) ⊎ (pos 0 ≤ℤ cross p e)
    by_side (inl h) = inl h
    by_side (inr h) = inr (subst (λ (t : Vector). pos 0 ≤ℤ cross p t) same (cross_swap s p h))

-- ---- one quadrant, with the end ahead of the start
one_quarter : (outer : ℕ) (s e p : Vector) → pos 0 ≤ℤ s.u → pos 0 ≤ℤ s.v → pos 0 ≤ℤ e.u → pos 0 ≤ℤ e.v → pos 0 <ℤ cross s e
    → IsReached s e p → IsSomewhere outer s 0 e p 1
one_quarter outer s e p su sv eu ev turn (inl swept) =
    let h : pos 0 ≤ℤ cross s e = omega (arith, ints) in
    let more : pos 1 ≤ℤ cross s e = omega (arith, ints) in
    let b = swept.short h in (
      0,
      omega arith,
      record {
        right = right_within s.u s.v e.u e.v p.u p.v su eu more b.0 b.1;
        up = above_within s.u s.v e.u e.v p.u p.v sv ev more b.0 b.1;
        ahead = b.0;
        following = b.1;
      },
    )
one_quarter outer s e p su sv eu ev turn (inr same) =
    let z : cross s s ≡ pos 0 = ring (s.u ∷ s.v ∷ []) (minus (times (var 0) (var 1)) (times (var 1) (var 0))) (minus (var 0) (var 0)) tt ∙ omega (arith, ints) in
    let none : cross s e ≡ pos 0 = subst (λ (t : Vector). cross s t ≡ pos 0) same z in
    absurd (omega (arith, ints))

-- ---- once round and into the first quadrant again
five_quarters : (outer : ℕ) (s e p : Vector) → (pos 0 ≤ℤ cross s p) ⊎ (pos 0 ≤ℤ cross p e) → IsSomewhere outer s 0 e p 5
five_quarters outer s e p reached = by_signs reached (sign_of p.u) (sign_of p.v)
  where
    by_signs : (pos 0 ≤ℤ cross s p) ⊎ (pos 0 ≤ℤ cross p e) → (pos 0 ≤ℤ p.u) ⊎ (p.u <ℤ pos 0) → (pos 0 ≤ℤ p.v) ⊎ (p.v <ℤ pos 0)
        → IsSomewhere outer s 0 e p 5
    by_signs (inl ahead) (inl r) (inl u) = (0, omega arith, from_start outer s p r u ahead)
    by_signs (inr following) (inl r) (inl u) = (4, omega arith, to_end outer 0 e p r u following)
    by_signs w (inr l) (inl u) = (1, omega arith, whole_quarter outer (turned_back 1 p) u (omega (arith, ints)))
    by_signs w (inr l) (inr d) = (2, omega arith, whole_quarter outer (turned_back 2 p) (omega (arith, ints)) (omega (arith, ints)))
    by_signs w (inl r) (inr d) = (3, omega arith, whole_quarter outer (turned_back 3 p) (omega (arith, ints)) r)

-- ---- to the second quadrant
two_quarters : (outer : ℕ) (s e p : Vector) → pos 1 ≤ℤ s.u → pos 0 ≤ℤ s.v → pos 0 ≤ℤ e.v → pos 1 ≤ℤ neg_ℤ e.u
    → (pos 0 ≤ℤ cross s p) × (pos 0 ≤ℤ cross p e) → IsSomewhere outer s 1 e p 2
two_quarters outer s e p su sv ev eu b = by_signs (sign_of p.u) (sign_of p.v)
  where
    by_signs : (pos 0 ≤ℤ p.u) ⊎ (p.u <ℤ pos 0) → (pos 0 ≤ℤ p.v) ⊎ (p.v <ℤ pos 0) → IsSomewhere outer s 1 e p 2
    by_signs (inl r) (inl u) = (0, omega arith, from_start outer s p r u b.0)
    by_signs (inr l) (inl u) = (1, omega arith, to_end outer 1 e p u (omega (arith, ints)) b.1)
    by_signs (inl r) (inr d) =
        let u : pos 0 ≤ℤ p.v = not_below s.u s.v p.u p.v su sv r b.0 in absurd (omega (arith, ints))
    by_signs (inr l) (inr d) =
        let u : pos 0 ≤ℤ p.v = not_below_left e.u e.v p.u p.v eu ev (omega (arith, ints)) b.1 in absurd (omega (arith, ints))

-- ---- to the third quadrant
three_quarters : (outer : ℕ) (s e p : Vector) → pos 1 ≤ℤ s.u → pos 0 ≤ℤ s.v → pos 0 ≤ℤ neg_ℤ e.u → pos 1 ≤ℤ neg_ℤ e.v
    → IsSwept s e p → IsSomewhere outer s 2 e p 3
three_quarters outer s e p su sv eu ev swept = by_turn (sign_of (cross s e))
  where
    by_turn : (pos 0 ≤ℤ cross s e) ⊎ (cross s e <ℤ pos 0) → IsSomewhere outer s 2 e p 3
    by_turn (inl h) = by_signs (swept.short h).0 (swept.short h).1 (sign_of p.u) (sign_of p.v)
      where
        by_signs : pos 0 ≤ℤ cross s p → pos 0 ≤ℤ cross p e → (pos 0 ≤ℤ p.u) ⊎ (p.u <ℤ pos 0) → (pos 0 ≤ℤ p.v) ⊎ (p.v <ℤ pos 0)
            → IsSomewhere outer s 2 e p 3
        by_signs ahead following (inl r) (inl u) = (0, omega arith, from_start outer s p r u ahead)
        by_signs ahead following (inr l) (inl u) = (1, omega arith, whole_quarter outer (turned_back 1 p) u (omega (arith, ints)))
        by_signs ahead following (inr l) (inr d) = (2, omega arith, to_end outer 2 e p (omega (arith, ints)) (omega (arith, ints)) following)
        by_signs ahead following (inl r) (inr d) =
            let u : pos 0 ≤ℤ p.v = not_below s.u s.v p.u p.v su sv r ahead in absurd (omega (arith, ints))
    by_turn (inr h) = by_signs (swept.long h) (sign_of p.u) (sign_of p.v)
      where
        turn : pos 0 ≤ℤ neg_ℤ (cross s e)
        turn = omega (arith, ints)

        by_signs : (pos 0 ≤ℤ cross s p) ⊎ (pos 0 ≤ℤ cross p e) → (pos 0 ≤ℤ p.u) ⊎ (p.u <ℤ pos 0) → (pos 0 ≤ℤ p.v) ⊎ (p.v <ℤ pos 0)
            → IsSomewhere outer s 2 e p 3
        by_signs (inl ahead) (inl r) (inl u) = (0, omega arith, from_start outer s p r u ahead)
        by_signs (inr following) (inl r) (inl u) =
            (0, omega arith, from_start outer s p r u (ahead_above s.u s.v e.u e.v p.u p.v sv ev u turn following))
        by_signs w (inr l) (inl u) = (1, omega arith, whole_quarter outer (turned_back 1 p) u (omega (arith, ints)))
        by_signs (inl ahead) (inr l) (inr d) = (
          2,
          omega arith,
          to_end outer 2 e p (omega (arith, ints)) (omega (arith, ints))
              (after_below s.u s.v e.u e.v p.u p.v su eu (omega (arith, ints)) turn ahead),
        )
        by_signs (inr following) (inr l) (inr d) = (2, omega arith, to_end outer 2 e p (omega (arith, ints)) (omega (arith, ints)) following)
        by_signs (inl ahead) (inl r) (inr d) =
            let u : pos 0 ≤ℤ p.v = not_below s.u s.v p.u p.v su sv r ahead in absurd (omega (arith, ints))
        by_signs (inr following) (inl r) (inr d) =
            let l : p.u ≤ℤ pos 0 = not_right e.u e.v p.u p.v eu ev (omega (arith, ints)) following in
            (2, omega arith, to_end outer 2 e p (omega (arith, ints)) (omega (arith, ints)) following)

-- ---- to the fourth quadrant
four_quarters : (outer : ℕ) (s e p : Vector) → pos 1 ≤ℤ s.u → pos 0 ≤ℤ s.v → pos 0 ≤ℤ neg_ℤ e.v → pos 1 ≤ℤ e.u
    → (pos 0 ≤ℤ cross s p) ⊎ (pos 0 ≤ℤ cross p e) → IsSomewhere outer s 3 e p 4
four_quarters outer s e p su sv ev eu reached = by_signs reached (sign_of p.u) (sign_of p.v)
  where
    by_signs : (pos 0 ≤ℤ cross s p) ⊎ (pos 0 ≤ℤ cross p e) → (pos 0 ≤ℤ p.u) ⊎ (p.u <ℤ pos 0) → (pos 0 ≤ℤ p.v) ⊎ (p.v <ℤ pos 0)
        → IsSomewhere outer s 3 e p 4
    by_signs (inl ahead) (inl r) (inl u) = (0, omega arith, from_start outer s p r u ahead)
    by_signs (inr following) (inl r) (inl u) =
        let d : p.v ≤ℤ pos 0 = not_above e.u e.v p.u p.v eu ev r following in
        (3, omega arith, to_end outer 3 e p (omega (arith, ints)) r following)
    by_signs w (inr l) (inl u) = (1, omega arith, whole_quarter outer (turned_back 1 p) u (omega (arith, ints)))
    by_signs w (inr l) (inr d) = (2, omega arith, whole_quarter outer (turned_back 2 p) (omega (arith, ints)) (omega (arith, ints)))
    by_signs (inl ahead) (inl r) (inr d) =
        let u : pos 0 ≤ℤ p.v = not_below s.u s.v p.u p.v su sv r ahead in absurd (omega (arith, ints))
    by_signs (inr following) (inl r) (inr d) = (3, omega arith, to_end outer 3 e p (omega (arith, ints)) r following)

-- ---- all of them
-- with an end in the second or third quadrant the sector is not everything
two_sided : (s e p : Vector) → pos 1 ≤ℤ s.u → pos 0 ≤ℤ s.v → pos 0 ≤ℤ neg_ℤ e.u → IsReached s e p → IsSwept s e p
two_sided s e p su sv eu (inl swept) = swept
two_sided s e p su sv eu (inr same) =
    let other : pos 1 ≤ℤ e.u = subst (λ (t : Vector). pos 1 ≤ℤ t.u) same su in absurd (omega (arith, ints))

ahead_of_start : (a b c d : ℤ) → pos 1 ≤ℤ a → pos 0 ≤ℤ b → pos 0 ≤ℤ d → pos 1 ≤ℤ neg_ℤ c → pos 0 ≤ℤ ((a *ℤ d) -ℤ (b *ℤ c))
ahead_of_start a b c d ha hb hd hc =
    let p : pos 0 ≤ℤ (a *ℤ d) = nonneg-*ℤ a d (omega (arith, ints)) hd in
    let q : pos 0 ≤ℤ (b *ℤ neg_ℤ c) = nonneg-*ℤ b (neg_ℤ c) hb (omega (arith, ints)) in
    let e : b *ℤ neg_ℤ c ≡ neg_ℤ (b *ℤ c) = ring (b ∷ c ∷ []) (times (var 0) (negate (var 1))) (negate (times (var 0) (var 1))) tt in
    omega (arith, ints)

pub walked : (outer k : ℕ) (s e p : Vector) → k < 4 → pos 1 ≤ℤ s.u → pos 0 ≤ℤ s.v → pos 0 ≤ℤ (turned_back k e).u → pos 1 ≤ℤ (turned_back k e).v
    → IsReached s e p → IsSomewhere outer s k e p (quadrant_count k (int_lt (pos 0) (cross s e)))
walked outer zero s e p h su sv eu ev reached = by_test (int_lt (pos 0) (cross s e)) refl
  where
    by_test : (b : Bool) → int_lt (pos 0) (cross s e) ≡ b → IsSomewhere outer s 0 e p (if b then 1 else 5)
    by_test true is =
        one_quarter outer s e p (omega (arith, ints)) sv eu (omega (arith, ints)) (grind (arith, ints)) reached
    by_test false is = five_quarters outer s e p (one_of s e p reached)
walked outer (suc zero) s e p h su sv ev eu reached =
    let swept = two_sided s e p su sv (omega (arith, ints)) reached in
    two_quarters outer s e p su sv ev eu (swept.short (ahead_of_start s.u s.v e.u e.v su sv ev eu))
walked outer (suc (suc zero)) s e p h su sv eu ev reached =
    three_quarters outer s e p su sv eu ev (two_sided s e p su sv eu reached)
walked outer (suc (suc (suc zero))) s e p h su sv ev eu reached =
    four_quarters outer s e p su sv ev eu (one_of s e p reached)
walked outer (suc (suc (suc (suc n)))) s e p h su sv eu ev reached = absurd (omega arith)
