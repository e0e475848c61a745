-- What is true of the bits of a word.
use Rattle.std.proofs.Common.{◌≡◌, ◌≢◌, ℕ, zero, suc, ◌-◌, ◌*◌, ◌/◌, ◌%◌, ◌^◌, ◌<◌, ◌≤◌, ◌==◌, ◌&&◌, ◌||◌, not, Bool, true, false, inl, inr, length, max, min, refl, sym, ap, subst, ◌∙◌, arith, w64, nat_eq}
use Rattle.std.proofs.Math.Nat.{pow-suc}
use Rattle.std.proofs.Math.Pow.{pow_mono}
use Rattle.std.proofs.lemmas.Bool.{eq-eqb, ne_eqb, cases_eq, cases_lt, false_from_ne_true}
use Rattle.std.proofs.lemmas.Nat.{or_lt, and_le_l, one_shl, pow_below, pow_pos}
use Rattle.std.proofs.lemmas.Nat.Bits.{bit_at_lowest, bit_at-suc, bit_at-zero, bit_at-lt, bit_at_above, bit_at_or, bit_at_and, bit_at_not, bit_at-pow_same, bit_at-pow_other, bit_at-trailing_zeros, shr_and_one, same_from_bits_below}
use Rattle.std.proofs.Math.Bool.{beq}
use Rattle.std.specs.Cmp.{booleans_Decides}
use Rattle.std.specs.Cmp.Lexicographic.{pointwise, pointwise_decides}
use Rattle.std.specs.Int.{bit_at, trailing_zeros}
use Rattle.std.specs.Int.RustNames.{bit_and, bit_or}
use Rattle.axis_sets.specs.Sets.{has, IsEmpty, IsLowest}
use Rattle.axis_sets.specs.Words.{bits_of, word_of, word_of-bits_of}

-- as many bits as are asked for
pub length-bits_of : (n w : ℕ) → length (bits_of n w) ≡ n
unfolding bits_of
length-bits_of zero w = refl
length-bits_of (suc n) w = ap suc (length-bits_of n (w / 2))

-- a place is a member exactly where its bit is 1
pub has_bit : (n w : ℕ) → w < 2 ^ n → (m : ℕ) → has (bits_of n w) m ≡ (bit_at w m == 1)
unfolding bits_of
has_bit zero w fits m =
    let none : w ≡ 0 = omega arith in
    sym (ap (λ x. bit_at x m == 1) none ∙ ap (λ x. x == 1) (bit_at-zero m))
has_bit (suc n) w fits zero = ap (λ x. x == 1) (sym (bit_at_lowest w))
has_bit (suc n) w fits (suc m) =
    has_bit n (w / 2) (omega (arith, pow-suc 2 n)) m ∙ ap (λ x. x == 1) (sym (bit_at-suc w m))

-- the test of one place
pub has_bit_tested : (n w : ℕ) → w < 2 ^ n → (m : ℕ) → (bit_and (w / 2 ^ m) 1 == 1) ≡ has (bits_of n w) m
has_bit_tested n w fits m = ap (λ x. x == 1) (shr_and_one w m) ∙ sym (has_bit n w fits m)

-- no place is a member from the size on
pub has_bit_past : (n w : ℕ) → w < 2 ^ n → (m : ℕ) → n ≤ m → has (bits_of n w) m ≡ false
has_bit_past n w fits m past = has_bit n w fits m ∙ ap (λ x. x == 1) (bit_at_above w n m fits past)

-- of the word 0 no place is a member
pub none_in_zero : (n : ℕ) → IsEmpty (bits_of n 0)
none_in_zero n m = has_bit n 0 (omega (arith, pow_pos n)) m ∙ ap (λ x. x == 1) (bit_at-zero m)

-- and of no other
pub zero_of_none : (n w : ℕ) → w < 2 ^ n → IsEmpty (bits_of n w) → w ≡ 0
zero_of_none n w fits none =
    same_from_bits_below n w 0 fits (omega (arith, pow_pos n))
    (λ i _. not_one (bit_at w i) (bit_at-lt w i) (sym (has_bit n w fits i) ∙ none i) ∙ sym (bit_at-zero i))
  where
    not_one : (b : ℕ) → b < 2 → (b == 1) ≡ false → b ≡ 0
    not_one b small other = grind arith

-- a word of all in either
pub has_bit_or : (n a b : ℕ) → a < 2 ^ n → b < 2 ^ n → (m : ℕ)
    → has (bits_of n (bit_or a b)) m ≡ (has (bits_of n a) m || has (bits_of n b) m)
has_bit_or n a b fits_a fits_b m =
    has_bit n (bit_or a b) (or_lt n a b fits_a fits_b) m ∙ ap (λ x. x == 1) (bit_at_or a b m)
    ∙ either (bit_at a m) (bit_at b m) (bit_at-lt a m) (bit_at-lt b m)
    ∙ rw (has_bit n a fits_a m, has_bit n b fits_b m) refl
  where
    either : (x y : ℕ) → x < 2 → y < 2 → (max x y == 1) ≡ ((x == 1) || (y == 1))
    either x y small_x small_y = grind arith

-- a word with one place more
pub has_bit_with : (n w p : ℕ) → n ≤ 64 → w < 2 ^ n → p < n → (m : ℕ)
    → has (bits_of n (bit_or w (1 * 2 ^ p % 18446744073709551616))) m ≡ ((m == p) || has (bits_of n w) m)
has_bit_with n w p narrow fits place m =
    let one : 1 * 2 ^ p % 2 ^ 64 ≡ 2 ^ p = one_shl p 64 (omega arith) in
    ap (λ x. has (bits_of n (bit_or w x)) m) one
    ∙ has_bit_or n w (2 ^ p) fits (pow_below p n place) m
    ∙ ap (λ x. has (bits_of n w) m || x) (has_bit n (2 ^ p) (pow_below p n place) m)
    ∙ elim (cases_eq m p) [
      | inl here ↦ rw (here, bit_at-pow_same p, eq-eqb p p refl) (with_one (has (bits_of n w) p))
      | inr other ↦ rw (bit_at-pow_other p m other, ne_eqb m p other) (with_none (has (bits_of n w) m))
    ]
  where
    with_one : (b : Bool) → (b || true) ≡ true
    with_one true = refl
    with_one false = refl

    with_none : (b : Bool) → (b || false) ≡ b
    with_none true = refl
    with_none false = refl

-- and it is a word of as many places
pub fits_with : (n w p : ℕ) → n ≤ 64 → w < 2 ^ n → p < n → bit_or w (1 * 2 ^ p % 18446744073709551616) < 2 ^ n
fits_with n w p narrow fits place =
    let one : 1 * 2 ^ p % 2 ^ 64 ≡ 2 ^ p = one_shl p 64 (omega arith) in
    subst (λ x. bit_or w x < 2 ^ n) (sym one) (or_lt n w (2 ^ p) fits (pow_below p n place))

-- a word without all of another
pub has_bit_minus : (n a b : ℕ) → n ≤ 64 → a < 2 ^ n → b < 2 ^ n → (m : ℕ)
    → has (bits_of n (bit_and a (18446744073709551615 - b))) m ≡ (has (bits_of n a) m && not (bit_at b m == 1))
has_bit_minus n a b narrow fits_a fits_b m = elim (cases_lt m n) [
  | inl below ↦ has_bit n (bit_and a (18446744073709551615 - b)) (omega (arith, and_le_l a (18446744073709551615 - b))) m
      ∙ ap (λ x. x == 1) (bit_at_and a (18446744073709551615 - b) m ∙ ap (min (bit_at a m)) (bit_at_not w64 b m (omega (arith, pow_mono narrow)) (omega arith)))
      ∙ both (bit_at a m) (bit_at b m) (bit_at-lt a m) (bit_at-lt b m)
      ∙ ap (λ x. x && not (bit_at b m == 1)) (sym (has_bit n a fits_a m))
  | inr past ↦ has_bit_past n (bit_and a (18446744073709551615 - b)) (omega (arith, and_le_l a (18446744073709551615 - b))) m past
      ∙ ap (λ x. x && not (bit_at b m == 1)) (sym (has_bit_past n a fits_a m past))
]
  where
    both : (x y : ℕ) → x < 2 → y < 2 → (min x (1 - y) == 1) ≡ ((x == 1) && not (y == 1))
    both x y small_x small_y = grind arith

-- a word without one place
pub has_bit_without : (n w p : ℕ) → n ≤ 64 → w < 2 ^ n → p < n → (m : ℕ)
    → has (bits_of n (bit_and w (18446744073709551615 - 1 * 2 ^ p % 18446744073709551616))) m ≡ (has (bits_of n w) m && not (m == p))
has_bit_without n w p narrow fits place m =
    let one : 1 * 2 ^ p % 2 ^ 64 ≡ 2 ^ p = one_shl p 64 (omega arith) in
    ap (λ x. has (bits_of n (bit_and w (18446744073709551615 - x))) m) one
    ∙ has_bit_minus n w (2 ^ p) narrow fits (pow_below p n place) m
    ∙ ap (λ x. has (bits_of n w) m && not x) (elim (cases_eq m p) [
      | inl here ↦ rw (here, bit_at-pow_same p) (sym (eq-eqb p p refl))
      | inr other ↦ rw (bit_at-pow_other p m other) (sym (ne_eqb m p other))
    ])

-- where no place of that number is, the word has not it
pub not_there : (n w p : ℕ) → w < 2 ^ n → n ≤ p → (m : ℕ) → has (bits_of n w) m ≡ (has (bits_of n w) m && not (m == p))
not_there n w p fits past m = elim (cases_eq m p) [
  | inl here ↦ rw (here, has_bit_past n w fits p past) refl
  | inr other ↦ rw (ne_eqb m p other) (all (has (bits_of n w) m))
]
  where
    all : (b : Bool) → b ≡ (b && true)
    all true = refl
    all false = refl

-- the lowest place of a word that is not 0
pub lowest_place : (n w : ℕ) → n ≤ 64 → w < 2 ^ n → w ≢ 0
    → IsLowest (bits_of n w) (trailing_zeros w64 w) × (trailing_zeros w64 w < n)
lowest_place n w narrow fits some =
    let within : w < 2 ^ 64 = omega (arith, pow_mono narrow) in
    let low = bit_at-trailing_zeros w64 w (omega (arith, some)) within in
    let member : has (bits_of n w) (trailing_zeros w64 w) ≡ true = has_bit n w fits (trailing_zeros w64 w) ∙ ap (λ x. x == 1) low.1 in
    (record { is_member = member; none_below = λ m below. has_bit n w fits m ∙ ap (λ x. x == 1) (low.2 m below) }, inside member)
  where
    inside : has (bits_of n w) (trailing_zeros w64 w) ≡ true → trailing_zeros w64 w < n
    inside member = elim (cases_lt (trailing_zeros w64 w) n) [
      | inl below ↦ below
      | inr past ↦ absurd (grind (arith, member, has_bit_past n w fits (trailing_zeros w64 w) past))
    ]

-- two words of one size are the same exactly where their bits are
pub same_bits : (n a b : ℕ) → a < 2 ^ n → b < 2 ^ n → nat_eq a b ≡ pointwise beq (bits_of n a) (bits_of n b)
same_bits n a b fits_a fits_b = elim (cases_eq a b) [
  | inl same ↦ eq-eqb a b same ∙ sym (alike.1 (ap (bits_of n) same))
  | inr other ↦ ne_eqb a b other ∙ sym (false_from_ne_true (pointwise beq (bits_of n a) (bits_of n b)) (λ e. other (word (alike.0 e))))
]
  where
    alike : (pointwise beq (bits_of n a) (bits_of n b) ≡ true → bits_of n a ≡ bits_of n b)
        × (bits_of n a ≡ bits_of n b → pointwise beq (bits_of n a) (bits_of n b) ≡ true)
    alike = pointwise_decides booleans_Decides (bits_of n a) (bits_of n b)

    word : bits_of n a ≡ bits_of n b → a ≡ b
    word e = sym (word_of-bits_of n a fits_a) ∙ ap word_of e ∙ word_of-bits_of n b fits_b
