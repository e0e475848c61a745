-- Fractions over different numbers, compared by cross-multiplication.
use Rattle.std.proofs.Common.{◌≡◌, ◌<◌, ◌⊎◌, ℕ, [], ◌∷◌, inl, inr, arith}
use Rattle.std.proofs.lemmas.Int.{ints, by_lt_z}
use Rattle.std.specs.Prelude.{ℤ, pos, ◌-ℤ◌, ◌*ℤ◌, ◌≤ℤ◌, ◌<ℤ◌}
use Rattle.number_laws.proofs.Integers.{≤ℤ_or, nonneg-pos, times_mono, times_cancel}
use Rattle.number_laws.proofs.Ring.{num, var, minus, times, ring}
use Rattle.number_laws.proofs.Orders.{some, given, both, by, all_of, refute}
use Rattle.number_laws.specs.Fractions.{Fraction, IsAtMost, IsSame, IsIn, whole}

pub at_most_refl : (p : Fraction) → IsAtMost p p
at_most_refl p = omega (arith, ints)

-- p / a ≤ q / b and q / b ≤ r / c give p / a ≤ r / c
chained : (p q r a b c : ℤ) → pos 0 ≤ℤ (b -ℤ pos 1) → pos 0 ≤ℤ a → pos 0 ≤ℤ c
    → pos 0 ≤ℤ ((q *ℤ a) -ℤ (p *ℤ b)) → pos 0 ≤ℤ ((r *ℤ b) -ℤ (q *ℤ c)) → (p *ℤ c) ≤ℤ (r *ℤ a)
chained p q r a b c b_some a_none c_none pq qr =
    let vp = var 0 in
    let vq = var 1 in
    let vr = var 2 in
    let va = var 3 in
    let vb = var 4 in
    let vc = var 5 in
    refute (p ∷ q ∷ r ∷ a ∷ b ∷ c ∷ [])
    (minus vb (num (pos 1)) ∷ va ∷ vc ∷ minus (times vq va) (times vp vb) ∷ minus (times vr vb) (times vq vc) ∷ []) []
    (all_of (by (given 1) (given 0) ∷ given 1 ∷ given 0 ∷ by (given 3) (given 4) ∷ by (given 2) (given 5) ∷ []))
    (times vp vc) (times vr va) (b_some, (a_none, (c_none, (pq, (qr, tt))))) tt tt

pub at_most_trans : (p q r : Fraction) → 0 < q.under → IsAtMost p q → IsAtMost q r → IsAtMost p r
at_most_trans p q r above pq qr =
    chained p.top q.top r.top (pos p.under) (pos q.under) (pos r.under) (omega (arith, ints)) (nonneg-pos p.under)
    (nonneg-pos r.under) (omega (arith, ints)) (omega (arith, ints))

pub same_from_at_most : (p q : Fraction) → IsAtMost p q → IsAtMost q p → IsSame p q
same_from_at_most p q h k = omega (arith, ints)

-- L ≤ l / uz, l / uz ≤ h / uw and h / uw ≤ H give L ≤ H
pub through : (L l h H uz uw : ℤ) → pos 1 ≤ℤ uz → pos 1 ≤ℤ uw → (L *ℤ uz) ≤ℤ l → (l *ℤ uw) ≤ℤ (h *ℤ uz) → h ≤ℤ (H *ℤ uw)
    → L ≤ℤ H
through L l h H uz uw uz_some uw_some low between high =
    let vL = var 0 in
    let vl = var 1 in
    let vh = var 2 in
    let vH = var 3 in
    let vz = var 4 in
    let vw = var 5 in
    let fz : pos 0 ≤ℤ (uz -ℤ pos 1) = omega (arith, ints) in
    let fw : pos 0 ≤ℤ (uw -ℤ pos 1) = omega (arith, ints) in
    let fl : pos 0 ≤ℤ (l -ℤ (L *ℤ uz)) = omega (arith, ints) in
    let fb : pos 0 ≤ℤ ((h *ℤ uz) -ℤ (l *ℤ uw)) = omega (arith, ints) in
    let fh : pos 0 ≤ℤ ((H *ℤ uw) -ℤ h) = omega (arith, ints) in
    let z_more = both (given 4) (some 1) in
    let w_more = both (given 5) (some 1) in
    refute (L ∷ l ∷ h ∷ H ∷ uz ∷ uw ∷ [])
    (minus vl (times vL vz) ∷ minus (times vh vz) (times vl vw) ∷ minus (times vH vw) vh ∷ minus vz (num (pos 1)) ∷ minus vw (num (pos 1)) ∷ [])
    []
    (all_of (by (given 1) w_more ∷ given 2 ∷ by (given 3) z_more ∷ by (given 0) (by z_more w_more) ∷ by (given 4) (given 5) ∷ given 4 ∷ given 5 ∷ []))
    vL vH (fl, (fb, (fh, (fz, (fw, tt))))) tt tt

-- where the whole bounds are apart, so are fractions within them
pub apart : (L l h H uz uw : ℤ) → pos 1 ≤ℤ uz → pos 1 ≤ℤ uw → (L *ℤ uz) ≤ℤ l → h ≤ℤ (H *ℤ uw) → H <ℤ L → (h *ℤ uz) <ℤ (l *ℤ uw)
apart L l h H uz uw uz_some uw_some low high less =
    by_lt_z (h *ℤ uz) (l *ℤ uw) (λ below. below)
    (λ le. let reached : L ≤ℤ H = through L l h H uz uw uz_some uw_some low le high in absurd (omega (arith, ints)))

swapped : (a b c : ℤ) → (a *ℤ b) *ℤ c ≡ (a *ℤ c) *ℤ b
swapped a b c = ring (a ∷ b ∷ c ∷ []) (times (times (var 0) (var 1)) (var 2)) (times (times (var 0) (var 2)) (var 1)) tt

-- a fraction that is the same as one within whole bounds is within them
pub in_from_same : (low high top other : ℤ) (m n : ℕ) → 0 < m → top *ℤ pos n ≡ other *ℤ pos m → IsIn low high top m → IsIn low high other n
in_from_same low high top other m n above same within =
    record {
      above = times_cancel m (low *ℤ pos n) other above
          (omega (arith, ints, times_mono n (low *ℤ pos m) top within.above, swapped low (pos m) (pos n)));
      below = times_cancel m other (high *ℤ pos n) above
          (omega (arith, ints, times_mono n top (high *ℤ pos m) within.below, swapped high (pos m) (pos n)));
    }

pub at_most_total : (p q : Fraction) → IsAtMost p q ⊎ IsAtMost q p
at_most_total p q = either (≤ℤ_or (p.top *ℤ pos q.under) (q.top *ℤ pos p.under))
  where
    either : IsAtMost p q ⊎ ((q.top *ℤ pos p.under) <ℤ (p.top *ℤ pos q.under)) → IsAtMost p q ⊎ IsAtMost q p
    either (inl h) = inl h
    either (inr less) = inr (omega (arith, ints))

pub whole_through : (low high : ℤ) (p q : Fraction) → 0 < p.under → 0 < q.under
    → IsAtMost (whole low) p → IsAtMost p q → IsAtMost q (whole high) → low ≤ℤ high
whole_through low high p q some_p some_q l between h =
    through low p.top q.top high (pos p.under) (pos q.under) (omega (arith, ints)) (omega (arith, ints)) (omega (arith, ints)) between (omega (arith, ints))
