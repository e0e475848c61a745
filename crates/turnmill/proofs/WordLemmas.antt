-- The texts of words: what follows a front, and the number that digits write.
use Rattle.std.proofs.Common.{◌≡◌, ◌∙◌, ℕ, ◌+◌, ◌<◌, ◌≤◌, ◌^◌, ◌==◌, ◌&&◌, Bool, true, false, nat_lt, nat_le, List, [], ◌∷◌, ◌++◌, length, drop, codes, is_some, slice_index, Option, None, Some, Err, option_map, MatchOption, Bor, refl, sym, ap, ap₂, subst, arith, rules}
use Rattle.std.proofs.Math.Nat.{pow-le-pow_right}
use Rattle.std.proofs.lemmas.Bool.{and_parts, eq-eqb, eqb-true, false≢true}
use Rattle.std.proofs.lemmas.Int.Digits.{digits_value-lt}
use Rattle.std.proofs.lemmas.Str.{digit_value_digit}
use Rattle.std.proofs.lemmas.Slice.Eq.{bytes_eq-Decides}
use Rattle.turnmill.proofs.ClapLemmas.{Finds, finds_apart, finds_joined}
use Rattle.std.specs.Char.{digit_value, is_ascii_digit}
use Rattle.std.specs.Int.{IsInRange}
use Rattle.std.specs.List.{list_all}
use Rattle.std.specs.Str.{bytes_eq}
use Rattle.std.specs.Str.Parse.{AllDigits, IsNumeral, ParsesUnsigned, digits_value, without_leading_plus}
use Rattle.std.specs.Str.Pattern.{FindsTextPrefix, StripsPrefix}
use Rattle.turnmill.specs.Words.{is_number, number_of, number_text, sample_number, text_after}

-- ---- what follows a front

pub after_front : (front rest text : List ℕ) → text ≡ front ++ rest → text_after front text ≡ Some rest
after_front front rest text is = rw is (of_front front)
  where
    of_front : (front : List ℕ) → text_after front (front ++ rest) ≡ Some rest
    of_front [] = refl
    of_front (x ∷ front) = let same : (x == x) ≡ true = eq-eqb x x refl in rw same (of_front front)

pub front_of_text : (front text rest : List ℕ) → text_after front text ≡ Some rest → text ≡ front ++ rest
front_of_text [] text rest is = cc
front_of_text (x ∷ front) [] rest is = absurd cc
front_of_text (x ∷ front) (y ∷ text) rest is = by_test (front_of_text front text rest) (x == y) refl
  where
    by_test : (text_after front text ≡ Some rest → text ≡ front ++ rest) → (b : Bool) → (x == y) ≡ b → y ∷ text ≡ x ∷ (front ++ rest)
    by_test further true e =
        let same : x ≡ y = eqb-true x y e in
        let more : text_after front text ≡ Some rest = rw e at is in
        ap₂ (λ z zs. z ∷ zs) (sym same) (further more)
    by_test further false e = let none : None ≡ Some rest = rw e at is in absurd cc

-- where it has none, the text does not begin so
pub no_front : (front text : List ℕ) → ((rest : List ℕ) → text ≡ front ++ rest → ⊥) → text_after front text ≡ None
no_front front text none = by_answer (text_after front text) refl
  where
    by_answer : (o : Option (List ℕ)) → text_after front text ≡ o → text_after front text ≡ None
    by_answer None e = e
    by_answer (Some rest) e = absurd (none rest (front_of_text front text rest e))

-- ---- digits

digit_range : (c : ℕ) → is_ascii_digit c ≡ true → IsInRange 48 57 c
digit_range c e = search rules

all_digits : (text : List ℕ) → list_all is_ascii_digit text ≡ true → AllDigits 10 text
all_digits [] e = tt
all_digits (c ∷ cs) e =
    let parts = and_parts (is_ascii_digit c) (list_all is_ascii_digit cs) e in
    let range = digit_range c parts.0 in
    let value : digit_value c + 48 ≡ c = digit_value_digit c range in
    (omega (arith, value, range.0, range.1), all_digits cs parts.1)

-- what is known of one to nine digits
pub record IsShortNumeral (text : List ℕ) : Type 0 where
  pub plain : without_leading_plus text ≡ text
  pub numeral : IsNumeral 10 text
  pub small : digits_value 10 text < 1000000000
  pub digit : IsInRange 48 57 (slice_index text 0)

pub short_numeral : (text : List ℕ) → is_number text ≡ true → IsShortNumeral text
short_numeral [] e = absurd cc
short_numeral (c ∷ cs) e =
    let parts = and_parts (nat_lt 0 (length (c ∷ cs))) (nat_le (length (c ∷ cs)) 9 && list_all is_ascii_digit (c ∷ cs)) e in
    let more = and_parts (nat_le (length (c ∷ cs)) 9) (list_all is_ascii_digit (c ∷ cs)) parts.1 in
    let digits : AllDigits 10 (c ∷ cs) = all_digits (c ∷ cs) more.1 in
    let range : IsInRange 48 57 c = digit_range c (and_parts (is_ascii_digit c) (list_all is_ascii_digit cs) more.1).0 in
    let short : length (c ∷ cs) ≤ 9 = search (rules, more.0) in
    let below : digits_value 10 (c ∷ cs) < 10 ^ length (c ∷ cs) = digits_value-lt 10 (c ∷ cs) digits in
    let most : 10 ^ length (c ∷ cs) ≤ 10 ^ 9 = pow-le-pow_right {n = 10} (omega arith) short in
    let no_plus : (c == 43) ≡ false = search (rules, range) in
    record {
      plain = rw no_plus refl;
      numeral = (omega arith, digits);
      small = omega (arith, below, most);
      digit = range;
    }

-- ---- what std's calls say of a text

-- a front that is taken off
pub stripped : (front text : List ℕ) (result : Option (Bor (List ℕ))) → MatchOption result (FindsTextPrefix front text None) (λ x. StripsPrefix (FindsTextPrefix front) text x.now)
    → option_map (λ (rest : Bor (List ℕ)). rest.now) result ≡ text_after front text
stripped front text None lacks = sym (no_front front text lacks)
stripped front text (Some x) strips =
    let begins : text ≡ front ++ drop strips.0 text = strips.1.1 in
    ap (λ (ys : List ℕ). Some ys) strips.2 ∙ sym (after_front front (drop strips.0 text) text begins)

-- the number that is read from one to nine digits
pub fails_not : (E : Type 0) (text : List ℕ) (e : E) → is_number text ≡ true → ParsesUnsigned {E = E} 32 10 text (Err e) → ⊥
fails_not E text e is parses =
    let known = short_numeral text is in
    parses (subst (λ (ds : List ℕ). IsNumeral 10 ds × (digits_value 10 ds < 2 ^ 32)) (sym known.plain) (known.numeral, omega (arith, known.small)))

pub reads_small : (text : List ℕ) (n : ℕ) → is_number text ≡ true → n ≡ digits_value 10 (without_leading_plus text) → n ≤ 999999999
reads_small text n is same =
    let known = short_numeral text is in
    let value : n ≡ digits_value 10 text = same ∙ ap (digits_value 10) known.plain in
    omega (arith, value, known.small)

-- ---- words that ask for a sample

-- they have a number, which `clap` finds in them
pub record FindsNumber (words : List (List ℕ)) : Type 0 where
  pub text : List ℕ
  pub number : number_text words ≡ Some text
  pub digits : is_number text ≡ true
  pub found : Finds words text

has_digits : (text : List ℕ) → is_some (number_of text) ≡ true → is_number text ≡ true
has_digits text is = by_test (is_number text) refl
  where
    by_test : (b : Bool) → is_number text ≡ b → is_number text ≡ true
    by_test true e = e
    by_test false e = let no : false ≡ true = rw e at is in absurd (false≢true no)

-- `sample --number=N`
joined_named : (second : List ℕ) → is_some (sample_number (codes "sample" ∷ second ∷ [])) ≡ true → FindsNumber (codes "sample" ∷ second ∷ [])
joined_named second is = by_rest (text_after (codes "--number=") second) refl
  where
    by_rest : (o : Option (List ℕ)) → text_after (codes "--number=") second ≡ o → FindsNumber (codes "sample" ∷ second ∷ [])
    by_rest None e = let no : false ≡ true = rw e at is in absurd (false≢true no)
    by_rest (Some rest) e =
        let some : is_some (number_of rest) ≡ true = rw e at is in
        let begins : second ≡ codes "--number=" ++ rest = front_of_text (codes "--number=") second rest e in
        record {
          text = rest;
          number = e;
          digits = has_digits rest some;
          found = subst (λ (word : List ℕ). Finds (codes "sample" ∷ word ∷ []) rest) (sym begins) (finds_joined rest);
        }

joined : (first second : List ℕ) → is_some (sample_number (first ∷ second ∷ [])) ≡ true → FindsNumber (first ∷ second ∷ [])
joined first second is = by_test (bytes_eq first (codes "sample")) refl
  where
    by_test : (b : Bool) → bytes_eq first (codes "sample") ≡ b → FindsNumber (first ∷ second ∷ [])
    by_test true e =
        let name : codes "sample" ≡ first = sym ((bytes_eq-Decides first (codes "sample")).0 e) in
        subst (λ (word : List ℕ). is_some (sample_number (word ∷ second ∷ [])) ≡ true → FindsNumber (word ∷ second ∷ [])) name (joined_named second) is
    by_test false e = let no : false ≡ true = rw e at is in absurd (false≢true no)

-- `sample --number N`
apart_named : (third : List ℕ) → is_some (sample_number (codes "sample" ∷ codes "--number" ∷ third ∷ [])) ≡ true → FindsNumber (codes "sample" ∷ codes "--number" ∷ third ∷ [])
apart_named [] is = absurd cc
apart_named (c ∷ rest) is =
    let digits : is_number (c ∷ rest) ≡ true = has_digits (c ∷ rest) is in
    record { text = c ∷ rest; number = refl; digits = digits; found = finds_apart c rest (short_numeral (c ∷ rest) digits).digit }

apart : (first second third : List ℕ) → is_some (sample_number (first ∷ second ∷ third ∷ [])) ≡ true → FindsNumber (first ∷ second ∷ third ∷ [])
apart first second third is = by_test (bytes_eq first (codes "sample") && bytes_eq second (codes "--number")) refl
  where
    by_test : (b : Bool) → (bytes_eq first (codes "sample") && bytes_eq second (codes "--number")) ≡ b → FindsNumber (first ∷ second ∷ third ∷ [])
    by_test true e =
        let both = and_parts (bytes_eq first (codes "sample")) (bytes_eq second (codes "--number")) e in
        let name : codes "sample" ≡ first = sym ((bytes_eq-Decides first (codes "sample")).0 both.0) in
        let option : codes "--number" ≡ second = sym ((bytes_eq-Decides second (codes "--number")).0 both.1) in
        subst (λ (word : List ℕ). is_some (sample_number (word ∷ second ∷ third ∷ [])) ≡ true → FindsNumber (word ∷ second ∷ third ∷ [])) name
        (subst (λ (word : List ℕ). is_some (sample_number (codes "sample" ∷ word ∷ third ∷ [])) ≡ true → FindsNumber (codes "sample" ∷ word ∷ third ∷ [])) option (apart_named third)) is
    by_test false e = let no : false ≡ true = rw e at is in absurd (false≢true no)

pub finds_number : (words : List (List ℕ)) → is_some (sample_number words) ≡ true → FindsNumber words
finds_number [] is = absurd cc
finds_number (a ∷ []) is = absurd cc
finds_number (a ∷ b ∷ []) is = joined a b is
finds_number (a ∷ b ∷ c ∷ []) is = apart a b c is
finds_number (a ∷ b ∷ c ∷ d ∷ rest) is = absurd cc
