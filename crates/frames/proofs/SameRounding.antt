-- A fraction is rounded to one number however it is written.
use Rattle.std.proofs.Common.{◌≡◌, ℕ, suc, ◌+◌, ◌*◌, ◌/◌, ◌<◌, ◌≤◌, inl, inr, sym, ap, ◌∙◌, arith}
use Rattle.std.proofs.Math.Nat.{mul-le-mul_right, le_of_mul-le-mul_right, mul-pos}
use Rattle.std.proofs.lemmas.Int.{ints, unsigned_abs-mul}
use Rattle.std.specs.Prelude.{ℤ, pos, negsuc, neg_ℤ, ◌*ℤ◌}
use Rattle.std.specs.Int.RustNames.{unsigned_abs}
use Rattle.micro_units.specs.Rounding.{half_away}
use Rattle.number_laws.proofs.Naturals.{quotient_is, le_or_lt}

size : ℕ → ℕ → ℕ
size n d = (2 * n + d) / (2 * d)

size-low : (n d : ℕ) → 0 < d → size n d * (2 * d) ≤ 2 * n + d
unfolding size
size-low n d some = omega arith

size-high : (n d : ℕ) → 0 < d → 2 * n + d + 1 ≤ size n d * (2 * d) + 2 * d
unfolding size
size-high n d some = omega arith

module _ (m n c d : ℕ) (some : 0 < c) (some' : 0 < d) (e : m * d ≡ n * c) where
  low : size n d * (2 * c) ≤ 2 * m + c
  low = le_of_mul-le-mul_right {k = d} (omega (arith, mul-le-mul_right c (size-low n d some'))) some'

  high : 2 * m + c < size n d * (2 * c) + 2 * c
  high = elim (le_or_lt (size n d * (2 * c) + 2 * c) (2 * m + c)) [
    | inl more ↦ absurd (omega (arith, mul-le-mul_right c (size-high n d some'), mul-le-mul_right d more))
    | inr less ↦ less
  ]

  same_size : (2 * m + c) / (2 * c) ≡ (2 * n + d) / (2 * d)
  unfolding size
  same_size = quotient_is (2 * m + c) (2 * c) (size n d) low high

sizes : (z w : ℤ) (c d : ℕ) → z *ℤ pos d ≡ w *ℤ pos c → unsigned_abs z * d ≡ unsigned_abs w * c
sizes z w c d e = sym (unsigned_abs-mul z (pos d)) ∙ ap unsigned_abs e ∙ unsigned_abs-mul w (pos c)

-- a number above 0 or 0 is no number below 0
apart : (m n c d : ℕ) → 0 < c → pos m *ℤ pos d ≡ negsuc n *ℤ pos c → ⊥
apart m n c d some e = let more : 0 < suc n * c = mul-pos (omega arith) some in omega (arith, ints)

pub half_away-same : (z w : ℤ) (c d : ℕ) → 0 < c → 0 < d → z *ℤ pos d ≡ w *ℤ pos c → half_away z c ≡ half_away w d
unfolding half_away
half_away-same (pos m) (pos n) c d some some' e = ap pos (same_size m n c d some some' (sizes (pos m) (pos n) c d e))
half_away-same (negsuc m) (negsuc n) c d some some' e =
    ap (λ (k : ℕ). neg_ℤ (pos k)) (same_size (suc m) (suc n) c d some some' (sizes (negsuc m) (negsuc n) c d e))
half_away-same (pos m) (negsuc n) c d some some' e = absurd (apart m n c d some e)
half_away-same (negsuc m) (pos n) c d some some' e = absurd (apart n m d c some' (sym e))
