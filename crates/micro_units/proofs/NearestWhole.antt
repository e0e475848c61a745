-- Rounding gives the nearest whole number.
use Rattle.std.proofs.Common.{◌≡◌, ℕ, zero, suc, ◌+◌, ◌-◌, ◌*◌, ◌/◌, ◌<◌, ◌≤◌, inl, inr, refl, ap, sym, subst, ◌∙◌, arith}
use Rattle.std.specs.Prelude.{ℤ, pos, negsuc, neg_ℤ, ◌+ℤ◌, ◌-ℤ◌, ◌*ℤ◌, nat_lt}
use Rattle.std.specs.Int.{abs_diff}
use Rattle.std.specs.Int.RustNames.{unsigned_abs}
use Rattle.std.proofs.Math.Nat.{mul-le-mul_right, mul-le-mul_left, zero-mul}
use Rattle.std.proofs.lemmas.Bool.{cases_order, cond_both, ltb-true, ltb-false}
use Rattle.std.proofs.lemmas.Nat.{div_below}
use Rattle.std.proofs.Math.IntN.{neg_ℤ-neg_ℤ}
use Rattle.std.proofs.lemmas.Int.{ints}
use Rattle.micro_units.specs.Rounding.{half_away, IsNearest}

-- sizes of differences, of two natural numbers and of two with other signs
abs-difference : (a b : ℕ) → unsigned_abs (pos a -ℤ pos b) ≡ abs_diff a b
abs-difference a zero = omega arith
abs-difference a (suc b) =
    cond_both (nat_lt a (suc b)) (negsuc (suc b - suc a)) (pos (a - suc b)) (λ z. unsigned_abs z ≡ abs_diff a (suc b))
    (λ less. let h = ltb-true a (suc b) less in omega arith)
    (λ more. let h = ltb-false a (suc b) more in omega arith)

abs-neg : (z : ℤ) → unsigned_abs (neg_ℤ z) ≡ unsigned_abs z
abs-neg (pos zero) = refl
abs-neg (pos (suc n)) = refl
abs-neg (negsuc n) = refl

-- the quotient that rounding takes, between its two bounds
rounded_size : ℕ → ℕ → ℕ
rounded_size n d = (2 * n + d) / (2 * d)

size-low : (n d : ℕ) → 0 < d → 2 * (rounded_size n d * d) ≤ 2 * n + d
unfolding rounded_size
size-low n d h = omega arith

size-high : (n d : ℕ) → 0 < d → 2 * n + d < 2 * (rounded_size n d * d) + 2 * d
unfolding rounded_size
size-high n d h = omega arith

-- the nearest among the natural numbers
nearer : (n d q m : ℕ) → 0 < d → 2 * (q * d) ≤ 2 * n + d → 2 * n + d < 2 * (q * d) + 2 * d → abs_diff n (q * d) ≤ abs_diff n (m * d)
nearer n d q m h low high = elim (cases_order q m) [
  | inl same ↦ let e = ap (λ (k : ℕ). k * d) same in omega arith
  | inr (inl less) ↦ let e : (q + 1) * d ≤ m * d = mul-le-mul_right d (omega arith) in omega arith
  | inr (inr more) ↦ let e : (m + 1) * d ≤ q * d = mul-le-mul_right d (omega arith) in omega arith
]

farther : (n d q m : ℕ) → 0 < d → 2 * (q * d) ≤ 2 * n + d → 2 * n + d < 2 * (q * d) + 2 * d → abs_diff n (m * d) ≡ abs_diff n (q * d) → m ≤ q
farther n d q m h low high tie = elim (cases_order q m) [
  | inl same ↦ omega arith
  | inr (inl less) ↦ absurd (let e : (q + 1) * d ≤ m * d = mul-le-mul_right d (omega arith) in omega arith)
  | inr (inr more) ↦ omega arith
]

-- the same for a whole number of either sign
gap-pos : (n m d : ℕ) → unsigned_abs (pos n -ℤ (pos m *ℤ pos d)) ≡ abs_diff n (m * d)
gap-pos n m d = abs-difference n (m * d)

gap-negsuc : (n m d : ℕ) → unsigned_abs (pos n -ℤ (negsuc m *ℤ pos d)) ≡ n + suc m * d
gap-negsuc n m d = ap (λ (z : ℤ). unsigned_abs (pos n +ℤ z)) (neg_ℤ-neg_ℤ (pos (suc m * d)))

near_pos : (n d q : ℕ) → 0 < d → 2 * (q * d) ≤ 2 * n + d → 2 * n + d < 2 * (q * d) + 2 * d
    → (m : ℤ) → unsigned_abs (pos n -ℤ (pos q *ℤ pos d)) ≤ unsigned_abs (pos n -ℤ (m *ℤ pos d))
near_pos n d q h low high (pos m) = rw (gap-pos n q d, gap-pos n m d) (nearer n d q m h low high)
near_pos n d q h low high (negsuc m) = rw (gap-pos n q d, gap-negsuc n m d) (omega arith)

far_pos : (n d q : ℕ) → 0 < d → 2 * (q * d) ≤ 2 * n + d → 2 * n + d < 2 * (q * d) + 2 * d
    → (m : ℤ) → unsigned_abs (pos n -ℤ (m *ℤ pos d)) ≡ unsigned_abs (pos n -ℤ (pos q *ℤ pos d)) → unsigned_abs m ≤ unsigned_abs (pos q)
far_pos n d q h low high (pos m) tie = farther n d q m h low high (sym (gap-pos n m d) ∙ (tie ∙ gap-pos n q d))
far_pos n d q h low high (negsuc m) tie =
    absurd (let same : n + suc m * d ≡ abs_diff n (q * d) = sym (gap-negsuc n m d) ∙ (tie ∙ gap-pos n q d) in omega arith)

near_size : (n d : ℕ) → 0 < d → IsNearest (pos n) d (pos (rounded_size n d))
near_size n d h = record {
  nearest = near_pos n d (rounded_size n d) h (size-low n d h) (size-high n d h);
  away = far_pos n d (rounded_size n d) h (size-low n d h) (size-high n d h);
}

-- and of its negative
neg-product : (m : ℤ) (d : ℕ) → neg_ℤ (m *ℤ pos d) ≡ neg_ℤ m *ℤ pos d
neg-product (pos zero) d = rw zero-mul
neg-product (pos (suc m)) d = refl
neg-product (negsuc m) d = neg_ℤ-neg_ℤ (pos (suc m * d))

mirrored : (n p : ℤ) → neg_ℤ n -ℤ p ≡ neg_ℤ (n -ℤ neg_ℤ p)
mirrored n p = omega (arith, ints)

mirror : (n m : ℤ) (d : ℕ) → unsigned_abs (neg_ℤ n -ℤ (m *ℤ pos d)) ≡ unsigned_abs (n -ℤ (neg_ℤ m *ℤ pos d))
mirror n m d =
    ap unsigned_abs (mirrored n (m *ℤ pos d))
    ∙ abs-neg (n -ℤ neg_ℤ (m *ℤ pos d))
    ∙ ap (λ (z : ℤ). unsigned_abs (n -ℤ z)) (neg-product m d)

mirror-neg : (n q : ℤ) (d : ℕ) → unsigned_abs (neg_ℤ n -ℤ (neg_ℤ q *ℤ pos d)) ≡ unsigned_abs (n -ℤ (q *ℤ pos d))
mirror-neg n q d = mirror n (neg_ℤ q) d ∙ ap (λ (z : ℤ). unsigned_abs (n -ℤ (z *ℤ pos d))) (neg_ℤ-neg_ℤ q)

IsNearest-neg : (n q : ℤ) (d : ℕ) → IsNearest n d q → IsNearest (neg_ℤ n) d (neg_ℤ q)
IsNearest-neg n q d h = record {
  nearest = λ m. rw (mirror-neg n q d, mirror n m d) (h.nearest (neg_ℤ m));
  away = λ m tie. subst (λ (x : ℕ). x ≤ unsigned_abs (neg_ℤ q)) (abs-neg m)
      (subst (λ (x : ℕ). unsigned_abs (neg_ℤ m) ≤ x) (sym (abs-neg q))
      (h.away (neg_ℤ m) (sym (mirror n m d) ∙ (tie ∙ mirror-neg n q d))));
}

-- rounding gives the nearest whole number
pub half_away-nearest : (n : ℤ) (d : ℕ) → 0 < d → IsNearest n d (half_away n d)
unfolding half_away rounded_size
half_away-nearest (pos n) d h = near_size n d h
half_away-nearest (negsuc n) d h = IsNearest-neg (pos (suc n)) (pos ((2 * suc n + d) / (2 * d))) d (near_size (suc n) d h)

-- and never a larger one
pub size-bound : (n d : ℕ) → 0 < d → (2 * n + d) / (2 * d) ≤ n
size-bound n d h =
    let wide : n * 1 ≤ n * d = mul-le-mul_left n h in
    let below = div_below (2 * n + d) (2 * d) (n + 1) (omega arith) (omega arith) in
    omega arith

pub half_away-bound : (n : ℤ) (d : ℕ) → 0 < d → unsigned_abs (half_away n d) ≤ unsigned_abs n
unfolding half_away
half_away-bound (pos n) d h = size-bound n d h
half_away-bound (negsuc n) d h = rw (abs-neg (pos ((2 * suc n + d) / (2 * d)))) (size-bound (suc n) d h)

-- these two bounds, for the search
pub ruleset bound = (half_away-bound, size-bound)
