-- What decides the value of a number as text.
use Rattle.std.proofs.Common.{◌≡◌, ℕ, ◌+◌, ◌-◌, ◌*◌, ◌/◌, ◌<◌, ◌≤◌, ◌^◌, min, ◌⊎◌, inl, inr, List, [], ◌∷◌, ◌++◌, length, fold, take, drop, true, false, Option, Some, None, Result, Ok, Err, ap, sym, subst, ◌∙◌, arith}
use Rattle.std.specs.Prelude.{ℤ, pos, nat_lt, MatchOption}
use Rattle.std.proofs.Math.Nat.{mul-le-mul_right, min_comm, pow-suc, one-le-pow, pow-le-pow_right}
use Rattle.std.proofs.lemmas.Nat.{pow-add, div_below, le-div}
use Rattle.std.proofs.lemmas.Bool.{and_parts, cases_lt}
use Rattle.std.proofs.lemmas.Bool.Decides.{nat_tests}
use Rattle.std.proofs.lemmas.List.{take_all, take_min, take-append-drop, append_assoc, length-append, length-take-le}
use Rattle.std.proofs.lemmas.List.Folds.{list_all-append}
use Rattle.std.proofs.lemmas.List.Sums.{fold-append}
use Rattle.std.specs.List.{list_all, before_first}
use Rattle.std.specs.Char.{is_ascii_digit}
use Rattle.std.specs.Int.RustNames.{unsigned_abs}
use Rattle.micro_units.specs.declared.Num.{Num}
use Rattle.micro_units.specs.declared.NumFault.{NumFault}
use Rattle.micro_units.specs.declared.NumFault.TheVariants.{NotANumber}
use Rattle.micro_units.specs.Num.{GivesNum, FitsNum}
use Rattle.micro_units.specs.NumberText.{is_point, is_number, with_digit, decimal, decimals_of, digits_of, kept_digits, number_of}
use Rattle.micro_units.specs.Rounding.{half_away}

-- a number that is cut at a limit on the way is that number cut at the end
cut_step : (a d M : ℕ) → min (min a M * 10 + d) M ≡ min (a * 10 + d) M
cut_step a d M = omega arith

pub fold-cut : (a M : ℕ) (ds : List ℕ) → min (fold with_digit (min a M) ds) M ≡ min (fold with_digit a ds) M
fold-cut a M [] = omega arith
fold-cut a M (d ∷ ds) =
    sym (fold-cut (with_digit (min a M) d) M ds)
    ∙ ap (λ (n : ℕ). min (fold with_digit n ds) M) (cut_step a (d - 48) M)
    ∙ fold-cut (with_digit a d) M ds

-- digits after a number: less than one more of it, and its digits moved to the left
bound_step : (a d p f : ℕ) → d < 10 → f < (a * 10 + d + 1) * p → f < (a + 1) * (p * 10)
bound_step a d p f h k = let e : (a * 10 + d + 1) * p ≤ (a * 10 + 10) * p = mul-le-mul_right p (omega arith) in omega (arith, e)

digit_below : (d : ℕ) → is_ascii_digit d ≡ true → d - 48 < 10
digit_below d h = grind (arith, nat_tests)

pub fold-bound : (a : ℕ) (ds : List ℕ) → list_all is_ascii_digit ds ≡ true → fold with_digit a ds < (a + 1) * 10 ^ length ds
fold-bound a [] h = omega arith
fold-bound a (d ∷ ds) h =
    let both = and_parts (is_ascii_digit d) (list_all is_ascii_digit ds) h in
    rw (pow-suc 10 (length ds))
    (bound_step a (d - 48) (10 ^ length ds) (fold with_digit (with_digit a d) ds) (digit_below d both.0) (fold-bound (with_digit a d) ds both.1))

shift_step : (a d p f g : ℕ) → f ≡ (a * 10 + d) * p + g → (h : ℕ) → h ≡ (0 * 10 + d) * p + g → f ≡ a * (p * 10) + h
shift_step a d p f g e h k = omega (arith, e, k)

pub fold-shift : (a : ℕ) (ds : List ℕ) → fold with_digit a ds ≡ a * 10 ^ length ds + fold with_digit 0 ds
fold-shift a [] = omega arith
fold-shift a (d ∷ ds) =
    rw (pow-suc 10 (length ds))
    (shift_step a (d - 48) (10 ^ length ds) (fold with_digit (with_digit a d) ds) (fold with_digit 0 ds)
    (fold-shift (with_digit a d) ds) (fold with_digit (with_digit 0 d) ds) (fold-shift (with_digit 0 d) ds))

-- a quotient is fixed by its two bounds
pub quotient_is : (q n d : ℕ) → 0 < d → q * d ≤ n → n < (q + 1) * d → n / d ≡ q
quotient_is q n d p h k = omega (arith, le-div q n d p h, div_below n d (q + 1) p k)

-- the eighth decimal and those after it do not matter
pub seventh_enough : (n r d : ℕ) → r < d → (2 * ((n * d + r) * 1000000) + 10000000 * d) / (2 * (10000000 * d)) ≡ (2 * (n * 1000000) + 10000000) / (2 * 10000000)
seventh_enough n r d h =
    let q = (n + 5) / 10 in
    let low : q * 10 * d ≤ (n + 5) * d = mul-le-mul_right d (omega arith) in
    let high : (n + 6) * d ≤ (q * 10 + 10) * d = mul-le-mul_right d (omega arith) in
    let here : (2 * (n * 1000000) + 10000000) / (2 * 10000000) ≡ q = omega arith in
    quotient_is q (2 * ((n * d + r) * 1000000) + 10000000 * d) (2 * (10000000 * d)) (omega arith) (omega (arith, low)) (omega (arith, high))
    ∙ sym here

seventh_rounded : (n r d : ℕ) → r < d → half_away (pos ((n * d + r) * 1000000)) (10000000 * d) ≡ half_away (pos (n * 1000000)) 10000000
unfolding half_away
seventh_rounded n r d h = ap pos (seventh_enough n r d h)

kept_parts : (w k r : List ℕ) → length k ≡ 7 → list_all is_ascii_digit r ≡ true
    → half_away (pos (decimal (w ++ (k ++ r)) * 1000000)) (10 ^ length (k ++ r)) ≡ half_away (pos (decimal (w ++ k) * 1000000)) (10 ^ 7)
kept_parts w k r seven digits =
    let value : decimal (w ++ (k ++ r)) ≡ decimal (w ++ k) * 10 ^ length r + fold with_digit 0 r =
    rw (← append_assoc) (fold-append with_digit 0 (w ++ k) r ∙ fold-shift (decimal (w ++ k)) r) in
    let long : length (k ++ r) ≡ 7 + length r = omega (arith, length-append k r) in
    let power : 10 ^ length (k ++ r) ≡ 10000000 * 10 ^ length r = ap (λ (n : ℕ). 10 ^ n) long ∙ pow-add 10 7 (length r) in
    rw (value, power) (seventh_rounded (decimal (w ++ k)) (fold with_digit 0 r) (10 ^ length r) (omega (arith, fold-bound 0 r digits)))

-- seven decimals decide
pub kept_suffice : (w ds : List ℕ) → list_all is_ascii_digit ds ≡ true
    → half_away (pos (decimal (w ++ ds) * 1000000)) (10 ^ length ds) ≡ half_away (pos (decimal (w ++ take 7 ds) * 1000000)) (10 ^ min 7 (length ds))
kept_suffice w ds digits = elim (cases_lt 7 (length ds)) [
  | inl long ↦
      let whole : take 7 ds ++ drop 7 ds ≡ ds = take-append-drop 7 ds in
      let seven : length (take 7 ds) ≡ 7 = length-take-le 7 ds (omega arith) in
      let split = and_parts (list_all is_ascii_digit (take 7 ds)) (list_all is_ascii_digit (drop 7 ds)) (sym (list_all-append is_ascii_digit (take 7 ds) (drop 7 ds)) ∙ (ap (list_all is_ascii_digit) whole ∙ digits)) in
      let least : min 7 (length ds) ≡ 7 = omega arith in
      ap (λ (xs : List ℕ). half_away (pos (decimal (w ++ xs) * 1000000)) (10 ^ length xs)) (sym whole)
      ∙ kept_parts w (take 7 ds) (drop 7 ds) seven split.1
      ∙ ap (λ (n : ℕ). half_away (pos (decimal (w ++ take 7 ds) * 1000000)) (10 ^ n)) (sym least)
  | inr short ↦
      let least : min 7 (length ds) ≡ length ds = omega arith in
      ap (λ (xs : List ℕ). half_away (pos (decimal (w ++ xs) * 1000000)) (10 ^ length ds)) (sym (take_all 7 ds short))
      ∙ ap (λ (n : ℕ). half_away (pos (decimal (w ++ take 7 ds) * 1000000)) (10 ^ n)) (sym least)
]

-- a number that is cut at the greatest u64 is out of range as the whole one is
beyond : (n p : ℕ) → 1 ≤ p → p ≤ 10000000 → 18446744073709551615 ≤ n → 100000000000000 ≤ (2 * (n * 1000000) + p) / (2 * p)
beyond n p one few big = le-div 100000000000000 (2 * (n * 1000000) + p) (2 * p) (omega arith) (omega arith)

cut_is : (n M : ℕ) → (min n M ≡ n) ⊎ ((min n M ≡ M) × (M < n))
cut_is n M = grind arith

cut_ok : (n p : ℕ) (z : ℤ) → 1 ≤ p → p ≤ 10000000 → FitsNum z
    → z ≡ pos ((2 * (min n 18446744073709551615 * 1000000) + p) / (2 * p)) → z ≡ pos ((2 * (n * 1000000) + p) / (2 * p))
cut_ok n p z one few fits e = elim (cut_is n 18446744073709551615) [
  | inl same ↦ e ∙ ap (λ (m : ℕ). pos ((2 * (m * 1000000) + p) / (2 * p))) same
  | inr cut ↦ absurd (let far = beyond (min n 18446744073709551615) p one few (omega arith) in let size = ap unsigned_abs e in omega arith)
]

cut_err : (n p : ℕ) → 1 ≤ p → p ≤ 10000000
    → ((2 * (min n 18446744073709551615 * 1000000) + p) / (2 * p) < 100000000000000 → ⊥) → (2 * (n * 1000000) + p) / (2 * p) < 100000000000000 → ⊥
cut_err n p one few h small = elim (cut_is n 18446744073709551615) [
  | inl same ↦ h (subst (λ (m : ℕ). (2 * (m * 1000000) + p) / (2 * p) < 100000000000000) (sym same) small)
  | inr cut ↦ absurd (let far = beyond n p one few (omega arith) in omega arith)
]

pub power_least : (k : ℕ) → 1 ≤ 10 ^ k
power_least k = one-le-pow k 10 (omega arith)

power_most : (k : ℕ) → k ≤ 7 → 10 ^ k ≤ 10000000
power_most k few = pow-le-pow_right {n = 10} (omega arith) few

pub cut_gives : (n k : ℕ) (r : Result Num NumFault) → k ≤ 7
    → GivesNum (half_away (pos (min n (2 ^ 64 - 1) * 1000000)) (10 ^ k)) r → GivesNum (half_away (pos (n * 1000000)) (10 ^ k)) r
unfolding half_away
cut_gives n k (Ok x) few h =
    let fits : FitsNum x = subst (λ (z : ℤ). FitsNum z) (sym h.0) h.1 in
    let e : x ≡ half_away (pos (n * 1000000)) (10 ^ k) = cut_ok n (10 ^ k) x (power_least k) (power_most k few) fits h.0 in
    (e, subst (λ (z : ℤ). FitsNum z) e fits)
cut_gives n k (Err e) few h = (h.0, cut_err n (10 ^ k) (power_least k) (power_most k few) h.1)

pub number_of-none : (text : List ℕ) → is_number text ≡ false → number_of text ≡ None
unfolding number_of
number_of-none text h = rw h

pub number_of-some : (text : List ℕ) → is_number text ≡ true
    → number_of text ≡ Some (half_away (pos (decimal (digits_of text) * 1000000)) (10 ^ length (decimals_of text)))
unfolding number_of
number_of-some text h = rw h

-- what the first seven decimals and the cut number give, the text gives
of_text : (text : List ℕ) (r : Result Num NumFault) (o : Option ℤ) → number_of text ≡ o
    → MatchOption o (r ≡ Err NotANumber) (λ v. GivesNum v r) → MatchOption (number_of text) (r ≡ Err NotANumber) (λ v. GivesNum v r)
of_text text r o e h = subst (λ (w : Option ℤ). MatchOption w (r ≡ Err NotANumber) (λ v. GivesNum v r)) (sym e) h

pub reads_none : (text : List ℕ) (r : Result Num NumFault) → is_number text ≡ false → r ≡ Err NotANumber
    → MatchOption (number_of text) (r ≡ Err NotANumber) (λ v. GivesNum v r)
reads_none text r form h = of_text text r None (number_of-none text form) h

pub reads_some : (text : List ℕ) (r : Result Num NumFault) (n k : ℕ) → is_number text ≡ true
    → n ≡ min (decimal (kept_digits text)) (2 ^ 64 - 1) → k ≡ min 7 (length (decimals_of text))
    → GivesNum (half_away (pos (n * 1000000)) (10 ^ k)) r
    → MatchOption (number_of text) (r ≡ Err NotANumber) (λ v. GivesNum v r)
reads_some text r n k form number few h =
    let digits = and_parts (list_all is_ascii_digit (digits_of text)) (nat_lt 0 (length (digits_of text))) form in
    let split = and_parts (list_all is_ascii_digit (before_first is_point text)) (list_all is_ascii_digit (decimals_of text))
    (sym (list_all-append is_ascii_digit (before_first is_point text) (decimals_of text)) ∙ digits.0) in
    let same = subst (λ (m : ℕ). GivesNum (half_away (pos (m * 1000000)) (10 ^ k)) r) number h in
    let whole = cut_gives (decimal (kept_digits text)) k r (omega arith) same in
    let there = subst (λ (m : ℕ). GivesNum (half_away (pos (decimal (kept_digits text) * 1000000)) (10 ^ m)) r) few whole in
    of_text text r (Some (half_away (pos (decimal (digits_of text) * 1000000)) (10 ^ length (decimals_of text)))) (number_of-some text form)
    (subst (λ (v : ℤ). GivesNum v r) (sym (kept_suffice (before_first is_point text) (decimals_of text) split.1)) there)

-- the digits before the point and the first seven after it, read one after the other
pub kept_is : (text w ds : List ℕ) (a n M : ℕ) → w ≡ before_first is_point text → ds ≡ decimals_of text
    → a ≡ min (fold with_digit 0 w) M → n ≡ min (fold with_digit a (take (min (length ds) 7) ds)) M → n ≡ min (decimal (kept_digits text)) M
kept_is text w ds a n M whole following start all =
    let some : take (min (length ds) 7) ds ≡ take 7 ds = ap (λ (k : ℕ). take k ds) (min_comm (length ds) 7) ∙ take_min 7 ds in
    let parts : w ++ take 7 ds ≡ kept_digits text = rw (whole, following) in
    all
    ∙ ap (λ (xs : List ℕ). min (fold with_digit a xs) M) some
    ∙ ap (λ (m : ℕ). min (fold with_digit m (take 7 ds)) M) start
    ∙ fold-cut (fold with_digit 0 w) M (take 7 ds)
    ∙ ap (λ (m : ℕ). min m M) (sym (fold-append with_digit 0 w (take 7 ds)))
    ∙ ap (λ (xs : List ℕ). min (decimal xs) M) parts
