-- A text of few bytes writes no number that is out of range.
use Rattle.std.proofs.Common.{◌≡◌, ℕ, ◌+◌, ◌*◌, ◌/◌, ◌^◌, ◌<◌, ◌≤◌, List, length, take, drop, Bool, true, false, refl, arith}
use Rattle.std.specs.Prelude.{nat_lt}
use Rattle.std.proofs.Math.Nat.{pow-le-pow_right, one-le-pow}
use Rattle.std.proofs.lemmas.Nat.{div_below}
use Rattle.std.proofs.lemmas.Bool.{and_parts}
use Rattle.std.proofs.lemmas.Bool.Decides.{nat_tests}
use Rattle.std.proofs.lemmas.List.{length-append, length-take, length-drop}
use Rattle.std.specs.List.{list_all, position_or_len}
use Rattle.std.specs.Char.{is_ascii_digit}
use Rattle.micro_units.proofs.Decimals.{fold-bound}
use Rattle.micro_units.specs.NumberText.{is_point, is_number, decimal, decimals_of, digits_of, number_of}
use Rattle.micro_units.specs.Rounding.{half_away}
use Rattle.word_tables.specs.LargeNumbers.{is_large}

-- no more digits than bytes
few_digits : (text : List ℕ) → length (digits_of text) ≤ length text
few_digits text =
    let i = position_or_len is_point text in
    rw (length-append (take i text) (drop (i + 1) text), length-take i text, length-drop (i + 1) text) (omega arith)

-- a number of few digits, with a point anywhere among them
small_ratio : (n d : ℕ) → n < 100000000 → 1 ≤ d → (2 * (n * 1000000) + d) / (2 * d) < 100000000000000
small_ratio n d small some = div_below (2 * (n * 1000000) + d) (2 * d) 100000000000000 (omega arith) (omega arith)

small_decimal : (digits : List ℕ) → list_all is_ascii_digit digits ≡ true → length digits ≤ 8 → decimal digits < 100000000
small_decimal digits all few = omega (arith, fold-bound 0 digits all, pow-le-pow_right {n = 10} (omega arith) few)

pub small_if_short : (text : List ℕ) → length text ≤ 8 → is_large (number_of text) ≡ false
unfolding number_of half_away
small_if_short text short = by (is_number text) refl
  where
    by : (b : Bool) → is_number text ≡ b → is_large (number_of text) ≡ false
    by false none = rw none refl
    by true some =
        let all = and_parts (list_all is_ascii_digit (digits_of text)) (nat_lt 0 (length (digits_of text))) some in
        let small = small_decimal (digits_of text) all.0 (omega (arith, few_digits text)) in
        let ratio = small_ratio (decimal (digits_of text)) (10 ^ length (decimals_of text)) small (one-le-pow (length (decimals_of text)) 10 (omega arith)) in
        rw some (grind (arith, nat_tests, ratio))
