-- Each number below 500 is written by one to three digits, which are a number in range.
use Rattle.std.proofs.Common.{◌≡◌, ℕ, zero, suc, ◌+◌, ◌<◌, ◌≤◌, ℤ, Bool, true, false, ◌&&◌, nat_lt, inl, inr, List, length, Option, Some, None, decimal, true≢false, refl, sym, subst, arith}
use Rattle.std.specs.List.{list_all, range_with_len}
use Rattle.std.specs.Char.{is_ascii_digit}
use Rattle.std.specs.Int.RustNames.{unsigned_abs}
use Rattle.std.specs.Fmt as fmt
use Rattle.std.proofs.lemmas.Bool.{and_parts, cases_lt, ltb-true}
use Rattle.micro_units.specs.NumberText.{number_of}
use Rattle.micro_units.specs.Rounding.{half_away}
use Rattle.micro_units.specs.declared.limits.TheConstants.{NUMBER_LIMIT}

-- a test that each number of a row passes
passes : (test : ℕ → Bool) (first count n : ℕ) → list_all test (range_with_len first count) ≡ true → first ≤ n → n < first + count → test n ≡ true
passes test first zero n all low high = absurd (omega arith)
passes test first (suc count) n all low high =
    let parts = and_parts (test first) (list_all test (range_with_len (first + 1) count)) all in
    elim (cases_lt first n) [
      | inl above ↦ passes test (first + 1) count n parts.1 (omega arith) (omega arith)
      | inr within ↦ let same : first ≡ n = omega arith in subst (λ (m : ℕ). test m ≡ true) same parts.0
    ]

abbrev is_small : Option ℤ → Bool
is_small (Some value) = nat_lt (unsigned_abs value) NUMBER_LIMIT
is_small None = false

abbrev is_short : List ℕ → Bool
is_short text = list_all is_ascii_digit text && (nat_lt 0 (length text) && (nat_lt (length text) 4 && is_small (number_of text)))

-- one to three digits, and the number that they write
pub record IsShort (text : List ℕ) : Type 0 where
  pub digits : list_all is_ascii_digit text ≡ true
  pub some : 0 < length text
  pub few : length text < 4
  pub value : ℤ
  pub writes : number_of text ≡ Some value
  pub small : nat_lt (unsigned_abs value) NUMBER_LIMIT ≡ true

short_from : (text : List ℕ) (number : Option ℤ) → number_of text ≡ number → is_small number ≡ true → list_all is_ascii_digit text ≡ true
    → 0 < length text → length text < 4 → IsShort text
short_from text None writes small digits some few = absurd (true≢false (sym small))
short_from text (Some value) writes small digits some few = record { digits = digits; some = some; few = few; value = value; writes = writes; small = small }

short : (text : List ℕ) → is_short text ≡ true → IsShort text
short text is =
    let first = and_parts (list_all is_ascii_digit text) (nat_lt 0 (length text) && (nat_lt (length text) 4 && is_small (number_of text))) is in
    let second = and_parts (nat_lt 0 (length text)) (nat_lt (length text) 4 && is_small (number_of text)) first.1 in
    let third = and_parts (nat_lt (length text) 4) (is_small (number_of text)) second.1 in
    short_from text (number_of text) refl third.1 first.0 (ltb-true 0 (length text) second.0) (ltb-true (length text) 4 third.0)

all_short : list_all (λ n. is_short (decimal n)) (range_with_len 0 500) ≡ true
unfolding number_of half_away fmt.digits
all_short = refl

pub short_decimal : (n : ℕ) → n < 500 → IsShort (decimal n)
short_decimal n low = short (decimal n) (passes (λ (m : ℕ). is_short (decimal m)) 0 500 n all_short (omega arith) (omega arith))
