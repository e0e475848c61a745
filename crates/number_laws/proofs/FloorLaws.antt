-- The floor and the ceiling of a fraction: they are bounds, and the nearest ones.
use Rattle.std.proofs.Common.{◌≡◌, ◌∙◌, ◌+◌, ◌*◌, ◌/◌, ◌≤◌, ◌<◌, ℕ, refl, ap, arith}
use Rattle.std.proofs.Math.IntN.{neg_ℤ-neg_ℤ}
use Rattle.std.proofs.lemmas.Int.{ints, by_lt_z}
use Rattle.std.specs.Int.{int_div_euclid}
use Rattle.std.specs.Prelude.{ℤ, pos, negsuc, neg_ℤ, ◌+ℤ◌, ◌*ℤ◌, ◌≤ℤ◌, ◌<ℤ◌}
use Rattle.number_laws.proofs.Integers.{+ℤ-*ℤ, neg-*ℤ, ≤ℤ_trans, times_mono, times_cancel}
use Rattle.number_laws.specs.Floors.{floor_div, ceil_div}

-- the code's quotient of a signed number by a natural one
pub floor_div-div_euclid : (z : ℤ) (d : ℕ) → int_div_euclid z (pos d) ≡ floor_div z d
floor_div-div_euclid (pos a) d = refl
floor_div-div_euclid (negsuc a) d = refl

quotient_low : (a d : ℕ) → 0 < d → (a / d) * d ≤ a
quotient_low a d h = omega arith

quotient_next : (a d : ℕ) → 0 < d → a < (a / d) * d + d
quotient_next a d h = omega arith

pub floor_div-le : (z : ℤ) (d : ℕ) → 0 < d → (floor_div z d *ℤ pos d) ≤ℤ z
floor_div-le (pos a) d h = omega (arith, ints, quotient_low a d h)
floor_div-le (negsuc a) d h = omega (arith, ints, quotient_next a d h)

pub floor_div-next : (z : ℤ) (d : ℕ) → 0 < d → z <ℤ ((floor_div z d *ℤ pos d) +ℤ pos d)
floor_div-next (pos a) d h = omega (arith, ints, quotient_next a d h)
floor_div-next (negsuc a) d h = omega (arith, ints, quotient_low a d h)

pub ceil_div-ge : (z : ℤ) (d : ℕ) → 0 < d → z ≤ℤ (ceil_div z d *ℤ pos d)
ceil_div-ge z d h =
    omega (arith, ints, floor_div-le (neg_ℤ z) d h, neg-*ℤ (floor_div (neg_ℤ z) d) (pos d))

pub ceil_div-previous : (z : ℤ) (d : ℕ) → 0 < d → (ceil_div z d *ℤ pos d) <ℤ (z +ℤ pos d)
ceil_div-previous z d h =
    omega (arith, ints, floor_div-next (neg_ℤ z) d h, neg-*ℤ (floor_div (neg_ℤ z) d) (pos d))

-- no greater whole number is at most the fraction
pub floor_greatest : (m z : ℤ) (d : ℕ) → 0 < d → (m *ℤ pos d) ≤ℤ z → m ≤ℤ floor_div z d
floor_greatest m z d some h =
    by_lt_z (floor_div z d) m
    (λ less. let more : (floor_div z d +ℤ pos 1) ≤ℤ m = omega (arith, ints) in
    absurd (omega (arith, ints, floor_div-next z d some, times_mono d (floor_div z d +ℤ pos 1) m more, +ℤ-*ℤ (floor_div z d) (pos 1) (pos d))))
    (λ le. le)

-- no lesser whole number is at least the fraction
pub ceil_least : (m z : ℤ) (d : ℕ) → 0 < d → z ≤ℤ (m *ℤ pos d) → ceil_div z d ≤ℤ m
ceil_least m z d some h =
    by_lt_z m (ceil_div z d)
    (λ less. let more : (m +ℤ pos 1) ≤ℤ ceil_div z d = omega (arith, ints) in
    absurd (omega (arith, ints, ceil_div-previous z d some, times_mono d (m +ℤ pos 1) (ceil_div z d) more, +ℤ-*ℤ m (pos 1) (pos d))))
    (λ le. le)

pub floor_mono : (z w : ℤ) (d : ℕ) → 0 < d → z ≤ℤ w → floor_div z d ≤ℤ floor_div w d
floor_mono z w d some h = floor_greatest (floor_div z d) w d some (≤ℤ_trans (floor_div-le z d some) h)

pub ceil_mono : (z w : ℤ) (d : ℕ) → 0 < d → z ≤ℤ w → ceil_div z d ≤ℤ ceil_div w d
ceil_mono z w d some h = ceil_least (ceil_div w d) z d some (≤ℤ_trans h (ceil_div-ge w d some))

-- a whole number is its own floor and ceiling
pub floor_div-one : (z : ℤ) → floor_div z 1 ≡ z
floor_div-one (pos a) = omega (arith, ints)
floor_div-one (negsuc a) = omega (arith, ints)

pub ceil_div-one : (z : ℤ) → ceil_div z 1 ≡ z
ceil_div-one z = ap neg_ℤ (floor_div-one (neg_ℤ z)) ∙ neg_ℤ-neg_ℤ z

pub floor-le-ceil : (z : ℤ) (d : ℕ) → 0 < d → floor_div z d ≤ℤ ceil_div z d
floor-le-ceil z d some =
    times_cancel d (floor_div z d) (ceil_div z d) some (≤ℤ_trans (floor_div-le z d some) (ceil_div-ge z d some))
