-- The tokens of a line that moves to two numbers.
use Rattle.std.proofs.Common.{◌≡◌, ◌∙◌, ℕ, zero, suc, ◌+◌, ◌≤◌, ◌==◌, true, false, List, [], ◌∷◌, ◌++◌, length, Result, Ok, refl, sym, ap, subst, append-nil, arith}
use Rattle.std.specs.List.{list_all, prefix_len}
use Rattle.std.specs.Char.{is_ascii_digit}
use Rattle.std.proofs.lemmas.Bool.{and_parts, or_from, both_ways, ne_eqb}
use Rattle.std.proofs.lemmas.Bool.Decides.{nat_tests}
use Rattle.std.proofs.lemmas.List.{length-append, drop_at}
use Rattle.block_scanner.specs.declared.Kind.{Kind}
use Rattle.block_scanner.specs.declared.Kind.TheVariants as kind
use Rattle.block_scanner.specs.declared.Sign.TheVariants.{Minus}
use Rattle.block_scanner.specs.declared.ScanFault.{ScanFault}
use Rattle.block_scanner.specs.declared.Token.{Token}
use Rattle.block_scanner.specs.Bytes.{is_blank, is_name_start}
use Rattle.block_scanner.specs.Front.{front, word_front, number_more, sign_front}
use Rattle.block_scanner.specs.Signs.{short_sign, long_sign}
use Rattle.block_scanner.specs.Tokens.{before, go_on, tokens_from}
use Rattle.block_scanner.proofs.FormLaws.{more_after, number_more-append}
use Rattle.block_scanner.proofs.Steps.{tokens_from-step, tokens_from-skip}
use Rattle.sample_laws.proofs.Numbers.{IsShort}

abbrev pub token : Kind → ℕ → ℕ → Token
token what first last = record { kind = what; start = first; end = last }

-- ---- a byte that is a digit

pub digit_apart : (byte other : ℕ) → is_ascii_digit byte ≡ true → is_ascii_digit other ≡ false → (byte == other) ≡ false
digit_apart byte other digit none = ne_eqb byte other (λ same. both_ways (is_ascii_digit other) none (subst (λ (x : ℕ). is_ascii_digit x ≡ true) same digit))

begins_no_name : (byte : ℕ) → is_ascii_digit byte ≡ true → is_name_start byte ≡ false
begins_no_name byte digit = grind (arith, nat_tests)

-- a number stands at a digit
digit_stands : (byte : ℕ) (following : List ℕ) (at : ℕ) (rest : ℕ → Result (List Token) ScanFault) → is_ascii_digit byte ≡ true
    → go_on (front byte following) at rest ≡ before (token kind.Number at (at + 1 + number_more following)) (rest (number_more following))
unfolding front
digit_stands byte following at rest digit =
    let no_blank : is_blank byte ≡ false = or_from (byte == 32) (byte == 9) (digit_apart byte 32 digit refl) (digit_apart byte 9 digit refl) in
    rw (no_blank, digit_apart byte 59 digit refl, digit_apart byte 34 digit refl, begins_no_name byte digit, digit) refl

first_digit : (byte : ℕ) (more : List ℕ) → IsShort (byte ∷ more) → is_ascii_digit byte ≡ true
first_digit byte more is = (and_parts (is_ascii_digit byte) (list_all is_ascii_digit more) is.digits).0

-- ---- a number

-- no number goes on with what follows
abbrev Stops : List ℕ → Type 0
Stops following = (prefix_len is_ascii_digit following ≡ 0) × ((count : ℕ) → more_after count following ≡ count)

number_passes : (at : ℕ) (text following : List ℕ) → IsShort text → Stops following
    → tokens_from at (text ++ following) zero ≡ before (token kind.Number at (at + length text)) (tokens_from (at + length text) following zero)
number_passes at [] following is stops = absurd (let some = is.some in omega arith)
number_passes at (d ∷ ds) following is stops =
    let digits = and_parts (is_ascii_digit d) (list_all is_ascii_digit ds) is.digits in
    let fits : length ds ≤ length (ds ++ following) = omega (arith, length-append ds following) in
    let ends : at + 1 + length ds ≡ at + suc (length ds) = omega arith in
    tokens_from-step at (d ∷ ds ++ following) d (ds ++ following) refl
    ∙ digit_stands d (ds ++ following) at (tokens_from (at + 1) (ds ++ following)) digits.0
    ∙ ap (λ (n : ℕ). before (token kind.Number at (at + 1 + n)) (tokens_from (at + 1) (ds ++ following) n))
    (number_more-append ds following digits.1 stops.0 ∙ stops.1 (length ds))
    ∙ ap (before (token kind.Number at (at + 1 + length ds)))
    (tokens_from-skip (length ds) (at + 1) (ds ++ following) fits ∙ ap (λ (l : List ℕ). tokens_from (at + 1 + length ds) l zero) (drop_at ds following (length ds) refl))
    ∙ ap (λ (n : ℕ). before (token kind.Number at n) (tokens_from n following zero)) ends

-- ---- the letters X and Z, and a minus sign

x_stands : (byte : ℕ) (following : List ℕ) (at : ℕ) (rest : ℕ → Result (List Token) ScanFault) → is_name_start byte ≡ false
    → go_on (front 88 (byte ∷ following)) at rest ≡ before (token (kind.Letter 88) at (at + 1 + 0)) (rest 0)
unfolding front word_front
x_stands byte following at rest none = rw none refl

z_stands : (byte : ℕ) (following : List ℕ) (at : ℕ) (rest : ℕ → Result (List Token) ScanFault) → is_name_start byte ≡ false
    → go_on (front 90 (byte ∷ following)) at rest ≡ before (token (kind.Letter 90) at (at + 1 + 0)) (rest 0)
unfolding front word_front
z_stands byte following at rest none = rw none refl

minus_stands : (byte : ℕ) (following : List ℕ) (at : ℕ) (rest : ℕ → Result (List Token) ScanFault)
    → go_on (front 45 (byte ∷ following)) at rest ≡ before (token (kind.Sign Minus) at (at + 1 + 0)) (rest 0)
unfolding front sign_front long_sign short_sign
minus_stands byte following at rest = refl

z_passes : (at byte : ℕ) (following : List ℕ) → is_name_start byte ≡ false
    → tokens_from at (32 ∷ 90 ∷ byte ∷ following) zero ≡ before (token (kind.Letter 90) (at + 1) (at + 1 + 1 + 0)) (tokens_from (at + 1 + 1) (byte ∷ following) zero)
unfolding tokens_from front
z_passes at byte following none = z_stands byte following (at + 1) (tokens_from (at + 1 + 1) (byte ∷ following)) none

-- ---- from the first number on

-- the tokens of two numbers with Z between them, from a place on
abbrev pub tail_of : ℕ → List ℕ → List ℕ → List Token
tail_of at x z =
    token kind.Number at (at + length x)
    ∷ token (kind.Letter 90) (at + length x + 1) (at + length x + 1 + 1 + 0)
    ∷ token kind.Number (at + length x + 1 + 1) (at + length x + 1 + 1 + length z)
    ∷ []

none_left : (at : ℕ) → tokens_from at [] zero ≡ Ok []
unfolding tokens_from
none_left at = refl

tail_tokens : (at : ℕ) (x z : List ℕ) → IsShort x → IsShort z → tokens_from at (x ++ 32 ∷ 90 ∷ z) zero ≡ Ok (tail_of at x z)
tail_tokens at x [] is_x is_z = absurd (let some = is_z.some in omega arith)
tail_tokens at x (e ∷ es) is_x is_z =
    let next = at + length x in
    let last = at + length x + 1 + 1 in
    number_passes at x (32 ∷ 90 ∷ e ∷ es) is_x (refl, λ count. refl)
    ∙ ap (before (token kind.Number at next))
    (z_passes next e es (begins_no_name e (first_digit e es is_z))
    ∙ ap (before (token (kind.Letter 90) (next + 1) (next + 1 + 1 + 0)))
    (ap (λ (l : List ℕ). tokens_from last l zero) (sym (append-nil (e ∷ es)))
    ∙ number_passes last (e ∷ es) [] is_z (refl, λ count. refl)
    ∙ ap (before (token kind.Number last (last + length (e ∷ es)))) (none_left (last + length (e ∷ es)))))

-- ---- the two moves

-- a move to positive X, and one to negative X
abbrev pub first_move : List ℕ → List ℕ → List ℕ
first_move x z = 71 ∷ 49 ∷ 32 ∷ 88 ∷ x ++ 32 ∷ 90 ∷ z

abbrev pub second_move : List ℕ → List ℕ → List ℕ
second_move x z = 71 ∷ 49 ∷ 32 ∷ 88 ∷ 45 ∷ x ++ 32 ∷ 90 ∷ z

-- what stands before the number of X in both
abbrev pub onto_move : List Token → List Token
onto_move tokens = token (kind.Letter 71) 0 1 ∷ token kind.Number 1 2 ∷ token (kind.Letter 88) 3 4 ∷ tokens

move_begins : (byte : ℕ) (following : List ℕ) → is_name_start byte ≡ false
    → tokens_from 0 (71 ∷ 49 ∷ 32 ∷ 88 ∷ byte ∷ following) zero
    ≡ before (token (kind.Letter 71) 0 1) (before (token kind.Number 1 2) (before (token (kind.Letter 88) 3 4) (tokens_from 4 (byte ∷ following) zero)))
unfolding tokens_from front word_front number_more
move_begins byte following none =
    ap (λ (r : Result (List Token) ScanFault). before (token (kind.Letter 71) 0 1) (before (token kind.Number 1 2) r))
    (x_stands byte following 3 (tokens_from 4 (byte ∷ following)) none)

minus_passes : (byte : ℕ) (following : List ℕ) → tokens_from 4 (45 ∷ byte ∷ following) zero ≡ before (token (kind.Sign Minus) 4 5) (tokens_from 5 (byte ∷ following) zero)
unfolding tokens_from
minus_passes byte following = minus_stands byte following 4 (tokens_from 5 (byte ∷ following))

pub first_tokens : (x z : List ℕ) → IsShort x → IsShort z → tokens_from 0 (first_move x z) zero ≡ Ok (onto_move (tail_of 4 x z))
first_tokens [] z is_x is_z = absurd (let some = is_x.some in omega arith)
first_tokens (d ∷ ds) z is_x is_z =
    move_begins d (ds ++ 32 ∷ 90 ∷ z) (begins_no_name d (first_digit d ds is_x))
    ∙ ap (λ (r : Result (List Token) ScanFault). before (token (kind.Letter 71) 0 1) (before (token kind.Number 1 2) (before (token (kind.Letter 88) 3 4) r)))
    (tail_tokens 4 (d ∷ ds) z is_x is_z)

pub second_tokens : (x z : List ℕ) → IsShort x → IsShort z → tokens_from 0 (second_move x z) zero ≡ Ok (onto_move (token (kind.Sign Minus) 4 5 ∷ tail_of 5 x z))
second_tokens [] z is_x is_z = absurd (let some = is_x.some in omega arith)
second_tokens (d ∷ ds) z is_x is_z =
    move_begins 45 (d ∷ ds ++ 32 ∷ 90 ∷ z) refl
    ∙ ap (λ (r : Result (List Token) ScanFault). before (token (kind.Letter 71) 0 1) (before (token kind.Number 1 2) (before (token (kind.Letter 88) 3 4) r)))
    (minus_passes d (ds ++ 32 ∷ 90 ∷ z) ∙ ap (before (token (kind.Sign Minus) 4 5)) (tail_tokens 5 (d ∷ ds) z is_x is_z))
