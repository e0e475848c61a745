-- Laws of the whole numbers that std lacks: products over sums, orders, signs.
use Rattle.std.proofs.Common.{◌≡◌, ◌+◌, ◌*◌, ◌≤◌, ◌<◌, ◌⊎◌, ℕ, inl, inr, ap, arith}
use Rattle.std.proofs.Math.Nat.{mul-le-mul_right}
use Rattle.std.proofs.lemmas.Int.{ints, clamps, by_lt_z}
use Rattle.std.specs.Int.{int_max, int_min}
use Rattle.std.specs.Prelude.{ℤ, pos, negsuc, neg_ℤ, ◌+ℤ◌, ◌*ℤ◌, ◌≤ℤ◌, ◌<ℤ◌}
use borrow.Author.Differences.{up, down, same_in, sum_is_lem, product_is, neg_is}

-- ---- products over sums
pub +ℤ-*ℤ : (a b c : ℤ) → (a +ℤ b) *ℤ c ≡ (a *ℤ c) +ℤ (b *ℤ c)
+ℤ-*ℤ a b c =
    same_in ((a +ℤ b) *ℤ c) ((a *ℤ c) +ℤ (b *ℤ c))
    (omega (
      arith,
      product_is (a +ℤ b) c,
      product_is a c,
      product_is b c,
      sum_is_lem (a *ℤ c) (b *ℤ c),
      ap (λ (n : ℕ). n * up c) (sum_is_lem a b),
      ap (λ (n : ℕ). n * down c) (sum_is_lem a b),
    ))

pub *ℤ-+ℤ : (a b c : ℤ) → a *ℤ (b +ℤ c) ≡ (a *ℤ b) +ℤ (a *ℤ c)
*ℤ-+ℤ a b c =
    same_in (a *ℤ (b +ℤ c)) ((a *ℤ b) +ℤ (a *ℤ c))
    (omega (
      arith,
      product_is a (b +ℤ c),
      product_is a b,
      product_is a c,
      sum_is_lem (a *ℤ b) (a *ℤ c),
      ap (λ (n : ℕ). up a * n) (sum_is_lem b c),
      ap (λ (n : ℕ). down a * n) (sum_is_lem b c),
    ))

pub *ℤ_assoc : (a b c : ℤ) → (a *ℤ b) *ℤ c ≡ a *ℤ (b *ℤ c)
*ℤ_assoc a b c =
    same_in ((a *ℤ b) *ℤ c) (a *ℤ (b *ℤ c))
    (omega (
      arith,
      product_is (a *ℤ b) c,
      product_is a (b *ℤ c),
      ap (λ (n : ℕ). n * up c) (product_is a b).0,
      ap (λ (n : ℕ). n * down c) (product_is a b).0,
      ap (λ (n : ℕ). n * up c) (product_is a b).1,
      ap (λ (n : ℕ). n * down c) (product_is a b).1,
      ap (λ (n : ℕ). up a * n) (product_is b c).0,
      ap (λ (n : ℕ). down a * n) (product_is b c).0,
      ap (λ (n : ℕ). up a * n) (product_is b c).1,
      ap (λ (n : ℕ). down a * n) (product_is b c).1,
    ))

pub neg-*ℤ : (a b : ℤ) → neg_ℤ a *ℤ b ≡ neg_ℤ (a *ℤ b)
neg-*ℤ a b =
    same_in (neg_ℤ a *ℤ b) (neg_ℤ (a *ℤ b))
    (omega (
      arith,
      product_is (neg_ℤ a) b,
      product_is a b,
      neg_is (a *ℤ b),
      ap (λ (n : ℕ). n * up b) (neg_is a).0,
      ap (λ (n : ℕ). n * down b) (neg_is a).0,
      ap (λ (n : ℕ). n * up b) (neg_is a).1,
      ap (λ (n : ℕ). n * down b) (neg_is a).1,
    ))

pub one-*ℤ : (a : ℤ) → pos 1 *ℤ a ≡ a
one-*ℤ a = omega (arith, ints)

pub minus_one : (a : ℤ) → negsuc 0 *ℤ a ≡ neg_ℤ a
minus_one a = omega (arith, ints)

-- ---- numbers that are not negative
pub nonneg-+ℤ : (a b : ℤ) → pos 0 ≤ℤ a → pos 0 ≤ℤ b → pos 0 ≤ℤ (a +ℤ b)
nonneg-+ℤ a b p q = omega (arith, ints)

pub nonneg-*ℤ : (a b : ℤ) → pos 0 ≤ℤ a → pos 0 ≤ℤ b → pos 0 ≤ℤ (a *ℤ b)
nonneg-*ℤ (pos m) (pos n) p q = omega (arith, ints)
nonneg-*ℤ (pos m) (negsuc n) p q = absurd (omega (arith, ints))
nonneg-*ℤ (negsuc m) b p q = absurd (omega (arith, ints))

pub nonneg-square : (a : ℤ) → pos 0 ≤ℤ (a *ℤ a)
nonneg-square (pos n) = omega (arith, ints)
nonneg-square (negsuc n) = omega (arith, ints)

pub nonneg-pos : (n : ℕ) → pos 0 ≤ℤ pos n
nonneg-pos n = omega (arith, ints)

pub sign_of : (a : ℤ) → (pos 0 ≤ℤ a) ⊎ (a <ℤ pos 0)
sign_of (pos n) = inl (omega (arith, ints))
sign_of (negsuc n) = inr (omega (arith, ints))

-- ---- the order
pub ≤ℤ_trans : {a b c : ℤ} → a ≤ℤ b → b ≤ℤ c → a ≤ℤ c
≤ℤ_trans p q = omega (arith, ints)

pub ≤ℤ_antisymm : {a b : ℤ} → a ≤ℤ b → b ≤ℤ a → a ≡ b
≤ℤ_antisymm p q = omega (arith, ints)

pub ≤ℤ_or : (a b : ℤ) → (a ≤ℤ b) ⊎ (b <ℤ a)
≤ℤ_or a b = by_lt_z b a (λ less. inr less) (λ le. inl le)

pub +ℤ_mono : {a b c d : ℤ} → a ≤ℤ b → c ≤ℤ d → (a +ℤ c) ≤ℤ (b +ℤ d)
+ℤ_mono p q = omega (arith, ints)

pub neg_mono : {a b : ℤ} → a ≤ℤ b → neg_ℤ b ≤ℤ neg_ℤ a
neg_mono p = omega (arith, ints)

-- an order times a natural number
pub times_mono : (n : ℕ) (a b : ℤ) → a ≤ℤ b → (a *ℤ pos n) ≤ℤ (b *ℤ pos n)
times_mono n a b h =
    let below : up a + down b ≤ up b + down a = omega (arith, ints) in
    omega (arith, ints, product_is a (pos n), product_is b (pos n), mul-le-mul_right n below)

-- and back, where the number is above 0
pub times_cancel : (n : ℕ) (a b : ℤ) → 0 < n → (a *ℤ pos n) ≤ℤ (b *ℤ pos n) → a ≤ℤ b
times_cancel n a b some h =
    by_lt_z b a
    (λ less. let more : (up b + down a) + 1 ≤ up a + down b = omega (arith, ints) in
    absurd (omega (arith, ints, product_is a (pos n), product_is b (pos n), mul-le-mul_right n more)))
    (λ le. le)

pub times_injective : (n : ℕ) (a b : ℤ) → 0 < n → a *ℤ pos n ≡ b *ℤ pos n → a ≡ b
times_injective n a b some e =
    let ab : (a *ℤ pos n) ≤ℤ (b *ℤ pos n) = omega (arith, ints) in
    let ba : (b *ℤ pos n) ≤ℤ (a *ℤ pos n) = omega (arith, ints) in
    ≤ℤ_antisymm (times_cancel n a b some ab) (times_cancel n b a some ba)

-- ---- the naturals among them
pub pos-injective : {m n : ℕ} → pos m ≡ pos n → m ≡ n
pos-injective e = omega (arith, ints)

pub pos-le : {m n : ℕ} → m ≤ n → pos m ≤ℤ pos n
pos-le h = omega (arith, ints)

pub le-pos : {m n : ℕ} → pos m ≤ℤ pos n → m ≤ n
le-pos h = omega (arith, ints)

-- ---- the lesser and the greater of two numbers
pub min_left : (a b : ℤ) → int_min a b ≤ℤ a
min_left a b = omega (arith, ints, clamps)

pub min_right : (a b : ℤ) → int_min a b ≤ℤ b
min_right a b = omega (arith, ints, clamps)

pub max_left : (a b : ℤ) → a ≤ℤ int_max a b
max_left a b = omega (arith, ints, clamps)

pub max_right : (a b : ℤ) → b ≤ℤ int_max a b
max_right a b = omega (arith, ints, clamps)

pub min_greatest : (c a b : ℤ) → c ≤ℤ a → c ≤ℤ b → c ≤ℤ int_min a b
min_greatest c a b p q = omega (arith, ints, clamps)

pub max_least : (c a b : ℤ) → a ≤ℤ c → b ≤ℤ c → int_max a b ≤ℤ c
max_least c a b p q = omega (arith, ints, clamps)
