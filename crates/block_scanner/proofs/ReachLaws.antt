-- Where a token has the form of its kind, what stands there reaches as far.
use Rattle.std.proofs.Common.{◌≡◌, ℕ, suc, ◌+◌, ◌<◌, ◌≤◌, Bool, true, false, cond, ◌==◌, inl, inr, List, [], ◌∷◌, ◌++◌, length, drop, Option, position, refl, sym, ◌∙◌, ap, subst, append_assoc, arith}
use Rattle.std.specs.List.{list_all, prefix_len}
use Rattle.std.specs.Char.{is_ascii_alphabetic, is_ascii_digit, to_ascii_uppercase}
use Rattle.std.proofs.lemmas.Bool.{and_parts, and_from, cond_both, cond-true, cond-false, or_left, or_from, both_ways, ne_eqb}
use Rattle.std.proofs.lemmas.Bool.Decides.{nat_tests}
use Rattle.std.proofs.lemmas.List.{length-append}
use Rattle.block_scanner.specs.declared.Kind.{Kind}
use Rattle.block_scanner.specs.declared.Kind.TheVariants as kind
use Rattle.block_scanner.specs.declared.Sign.{Sign}
use Rattle.block_scanner.specs.declared.Sign.TheVariants.{Plus, Minus, Times, Slash, Assign, Equal, NotEqual, Less, Greater, LessEqual, GreaterEqual, OpenParenthesis, CloseParenthesis, OpenBracket, CloseBracket, Comma, Colon, Dollar}
use Rattle.block_scanner.specs.declared.beginnings.Front.{Front}
use Rattle.block_scanner.specs.declared.beginnings.Front.TheVariants.{Stands, Forbidden}
use Rattle.block_scanner.specs.Bytes.{is_blank, is_semicolon, is_quote, is_point, is_name_start, is_name_part, begins_with}
use Rattle.block_scanner.specs.Front.{front, word_front, text_front, number_more, sign_front, two_or_one_sign}
use Rattle.block_scanner.specs.Signs.{spelling, short_sign, long_sign}
use Rattle.block_scanner.specs.Tokenisation.{HasForm, AreDigits, HasNoQuote}
use Rattle.block_scanner.proofs.FormLaws.{no_quote, position_some, start_is_part, number_more-append}
use Rattle.block_scanner.proofs.Prefixes.{prefix_len-append}

-- a token stands there that is at least as long as this text, and of this kind where it is as long
pub record Reaches (k : Kind) (text : List ℕ) (f : Front) : Type 0 where
  pub found : Kind
  pub more : ℕ
  pub stands : f ≡ Stands found more
  pub long : length text ≤ suc more
  pub same : length text ≡ suc more → k ≡ found

-- a token has at least one byte
pub form_is_filled : (k : Kind) → HasForm k [] → ⊥
form_is_filled (kind.Letter l) h = let e = h.1 in cc
form_is_filled kind.Name h = let e = h.3 in cc
form_is_filled kind.Number (inl h) = let some = h.1 in omega arith
form_is_filled kind.Number (inr h) = let e : 0 ≡ length h.0 + suc (length h.1) = ap length h.2 ∙ length-append h.0 (46 ∷ h.1) in omega arith
form_is_filled kind.Text h = let e = h.1 in cc
form_is_filled (kind.Sign s) h = by s h
  where
    by : (s : Sign) → [] ≡ spelling s → ⊥
    by Plus e = cc
    by Minus e = cc
    by Times e = cc
    by Slash e = cc
    by Assign e = cc
    by Equal e = cc
    by NotEqual e = cc
    by Less e = cc
    by Greater e = cc
    by LessEqual e = cc
    by GreaterEqual e = cc
    by OpenParenthesis e = cc
    by CloseParenthesis e = cc
    by OpenBracket e = cc
    by CloseBracket e = cc
    by Comma e = cc
    by Colon e = cc
    by Dollar e = cc

apart : (test : ℕ → Bool) (b n : ℕ) → test b ≡ true → test n ≡ false → (b == n) ≡ false
apart test b n at_b at_n = ne_eqb b n (λ e. both_ways (test n) at_n (subst (λ (x : ℕ). test x ≡ true) e at_b))

front-name_start : (b : ℕ) (bs : List ℕ) → is_name_start b ≡ true → front b bs ≡ word_front b bs
unfolding front
front-name_start b bs h =
    let no_blank = or_from (b == 32) (b == 9) (apart is_name_start b 32 h refl) (apart is_name_start b 9 h refl) in
    cond-false (is_blank b) _ _ no_blank ∙ cond-false (is_semicolon b) _ _ (apart is_name_start b 59 h refl)
    ∙ cond-false (is_quote b) _ _ (apart is_name_start b 34 h refl) ∙ cond-true (is_name_start b) _ _ h

digit_is_no_start : (b : ℕ) → is_ascii_digit b ≡ true → is_name_start b ≡ false
digit_is_no_start b h = grind (arith, nat_tests)

front-digit : (b : ℕ) (bs : List ℕ) → is_ascii_digit b ≡ true → front b bs ≡ Stands kind.Number (number_more bs)
unfolding front
front-digit b bs h =
    let no_blank = or_from (b == 32) (b == 9) (apart is_ascii_digit b 32 h refl) (apart is_ascii_digit b 9 h refl) in
    cond-false (is_blank b) _ _ no_blank ∙ cond-false (is_semicolon b) _ _ (apart is_ascii_digit b 59 h refl)
    ∙ cond-false (is_quote b) _ _ (apart is_ascii_digit b 34 h refl) ∙ cond-false (is_name_start b) _ _ (digit_is_no_start b h)
    ∙ cond-true (is_ascii_digit b) _ _ h

front-point : (bs : List ℕ) → begins_with is_ascii_digit bs ≡ true → front 46 bs ≡ Stands kind.Number (prefix_len is_ascii_digit bs)
unfolding front
front-point bs h = cond-true (begins_with is_ascii_digit bs) _ _ h

pub front-quote : (bs : List ℕ) → front 34 bs ≡ text_front (position is_quote bs)
unfolding front
front-quote bs = refl

letter_reaches : (b l : ℕ) (bs : List ℕ) → is_ascii_alphabetic b ≡ true → l ≡ to_ascii_uppercase b → Reaches (kind.Letter l) (b ∷ []) (word_front b bs)
unfolding word_front
letter_reaches b l bs alpha letter =
    let P = λ (f : Front). Reaches (kind.Letter l) (b ∷ []) f in
    cond_both (begins_with is_name_start bs) _ _ P (λ two. long bs two)
    (λ _. cond_both (is_ascii_alphabetic b) _ _ P
    (λ _. record { found = kind.Letter (to_ascii_uppercase b); more = 0; stands = refl; long = omega arith; same = λ _. ap (λ x. kind.Letter x) letter })
    (λ none. absurd (both_ways (is_ascii_alphabetic b) none alpha)))
  where
    long : (xs : List ℕ) → begins_with is_name_start xs ≡ true → Reaches (kind.Letter l) (b ∷ []) (Stands kind.Name (prefix_len is_name_part xs))
    long [] h = absurd (cc)
    long (c ∷ cs) h =
        let more : prefix_len is_name_part (c ∷ cs) ≡ suc (prefix_len is_name_part cs) = ap (λ t. cond t (1 + prefix_len is_name_part cs) 0) (start_is_part c h) ∙ omega arith in
        record { found = kind.Name; more = prefix_len is_name_part (c ∷ cs); stands = refl; long = omega arith; same = λ e. absurd (omega arith) }

name_reaches : (b c : ℕ) (cs tail : List ℕ) → is_name_start b ≡ true → is_name_start c ≡ true → list_all is_name_part cs ≡ true
    → Reaches kind.Name (b ∷ c ∷ cs) (front b (c ∷ cs ++ tail))
unfolding word_front
name_reaches b c cs tail first second parts =
    let all : list_all is_name_part (c ∷ cs) ≡ true = and_from (is_name_part c) (list_all is_name_part cs) (start_is_part c second) parts in
    let more = prefix_len-append is_name_part (c ∷ cs) tail all in
    record {
      found = kind.Name;
      more = prefix_len is_name_part (c ∷ cs ++ tail);
      stands = front-name_start b (c ∷ cs ++ tail) first ∙ cond-true (is_name_start c) _ _ second;
      long = omega arith;
      same = λ _. refl;
    }

number_more-least : (bs : List ℕ) → prefix_len is_ascii_digit bs ≤ number_more bs
unfolding number_more
number_more-least bs =
    cond_both (begins_with is_point (drop (prefix_len is_ascii_digit bs) bs)) _ _ (λ (n : ℕ). prefix_len is_ascii_digit bs ≤ n) (λ _. omega arith) (λ _. omega arith)

digits_reach : (b : ℕ) (ds tail : List ℕ) → AreDigits (b ∷ ds) → Reaches kind.Number (b ∷ ds) (front b (ds ++ tail))
digits_reach b ds tail digits =
    let parts = and_parts (is_ascii_digit b) (list_all is_ascii_digit ds) digits in
    let more = prefix_len-append is_ascii_digit ds tail parts.1 in
    let least = number_more-least (ds ++ tail) in
    record { found = kind.Number; more = number_more (ds ++ tail); stands = front-digit b (ds ++ tail) parts.0; long = omega arith; same = λ _. refl }

decimals_reach : (ds tail : List ℕ) → AreDigits ds → 0 < length ds → Reaches kind.Number (46 ∷ ds) (front 46 (ds ++ tail))
decimals_reach [] tail digits some = absurd (omega arith)
decimals_reach (d ∷ ds) tail digits some =
    let parts = and_parts (is_ascii_digit d) (list_all is_ascii_digit ds) digits in
    let more = prefix_len-append is_ascii_digit (d ∷ ds) tail digits in
    record { found = kind.Number; more = prefix_len is_ascii_digit (d ∷ ds ++ tail); stands = front-point (d ∷ ds ++ tail) parts.0; long = omega arith; same = λ _. refl }

pointed_reaches : (b : ℕ) (ws ds tail : List ℕ) → AreDigits (b ∷ ws) → AreDigits ds → Reaches kind.Number (b ∷ ws ++ 46 ∷ ds) (front b ((ws ++ 46 ∷ ds) ++ tail))
pointed_reaches b ws ds tail whole decimals =
    let parts = and_parts (is_ascii_digit b) (list_all is_ascii_digit ws) whole in
    let bs = (ws ++ 46 ∷ ds) ++ tail in
    let more : number_more bs ≡ length ws + 1 + prefix_len is_ascii_digit (ds ++ tail) =
    ap number_more (append_assoc ws (46 ∷ ds) tail) ∙ number_more-append ws (46 ∷ ds ++ tail) parts.1 refl in
    let following = prefix_len-append is_ascii_digit ds tail decimals in
    let long = length-append ws (46 ∷ ds) in
    record { found = kind.Number; more = number_more bs; stands = front-digit b bs parts.0; long = omega arith; same = λ _. refl }

text_reaches : (inside tail : List ℕ) → HasNoQuote inside → Reaches kind.Text (34 ∷ inside ++ 34 ∷ []) (front 34 ((inside ++ 34 ∷ []) ++ tail))
text_reaches inside tail none =
    let bs = (inside ++ 34 ∷ []) ++ tail in
    let joined : bs ≡ inside ++ 34 ∷ tail = append_assoc inside (34 ∷ []) tail in
    let at : prefix_len no_quote bs ≡ length inside = ap (prefix_len no_quote) joined ∙ prefix_len-append no_quote inside (34 ∷ tail) none ∙ omega arith in
    let room : length bs ≡ length inside + suc (length tail) = ap length joined ∙ length-append inside (34 ∷ tail) in
    let long = length-append inside (34 ∷ []) in
    record {
      found = kind.Text;
      more = length inside + 1;
      stands = front-quote bs ∙ ap text_front (position_some bs (length inside) at (omega arith));
      long = omega arith;
      same = λ _. refl;
    }

plain : (s : Sign) (text : List ℕ) (f : Front) (more : ℕ) → f ≡ Stands (kind.Sign s) more → length text ≡ suc more → Reaches (kind.Sign s) text f
plain s text f more stands long = record { found = kind.Sign s; more = more; stands = stands; long = omega arith; same = λ _. refl }

longer : (s t : Sign) (b : ℕ) → Reaches (kind.Sign s) (b ∷ []) (Stands (kind.Sign t) 1)
longer s t b = record { found = kind.Sign t; more = 1; stands = refl; long = omega arith; same = λ e. absurd (omega arith) }

-- what stands at the first of some bytes
abbrev pub first_front : List ℕ → Front
first_front [] = Forbidden
first_front (b ∷ bs) = front b bs

sign_reaches : (s : Sign) (tail : List ℕ) → Reaches (kind.Sign s) (spelling s) (first_front (spelling s ++ tail))
unfolding front sign_front short_sign long_sign
sign_reaches Plus [] = plain Plus _ _ 0 refl refl
sign_reaches Plus (c ∷ cs) = plain Plus _ _ 0 refl refl
sign_reaches Minus [] = plain Minus _ _ 0 refl refl
sign_reaches Minus (c ∷ cs) = plain Minus _ _ 0 refl refl
sign_reaches Times [] = plain Times _ _ 0 refl refl
sign_reaches Times (c ∷ cs) = plain Times _ _ 0 refl refl
sign_reaches Slash [] = plain Slash _ _ 0 refl refl
sign_reaches Slash (c ∷ cs) = plain Slash _ _ 0 refl refl
sign_reaches Assign [] = plain Assign _ _ 0 refl refl
sign_reaches Assign (c ∷ cs) = cond_both (c == 61) _ _ (λ (o : Option Sign). Reaches (kind.Sign Assign) (61 ∷ []) (two_or_one_sign o 61)) (λ _. longer Assign Equal 61) (λ _. plain Assign _ _ 0 refl refl)
sign_reaches Equal tail = plain Equal _ _ 1 refl refl
sign_reaches NotEqual tail = plain NotEqual _ _ 1 refl refl
sign_reaches Less [] = plain Less _ _ 0 refl refl
sign_reaches Less (c ∷ cs) = cond_both (c == 62) _ _ (λ (o : Option Sign). Reaches (kind.Sign Less) (60 ∷ []) (two_or_one_sign o 60)) (λ _. longer Less NotEqual 60) (λ _. cond_both (c == 61) _ _ (λ (o : Option Sign). Reaches (kind.Sign Less) (60 ∷ []) (two_or_one_sign o 60)) (λ _. longer Less LessEqual 60) (λ _. plain Less _ _ 0 refl refl))
sign_reaches Greater [] = plain Greater _ _ 0 refl refl
sign_reaches Greater (c ∷ cs) = cond_both (c == 61) _ _ (λ (o : Option Sign). Reaches (kind.Sign Greater) (62 ∷ []) (two_or_one_sign o 62)) (λ _. longer Greater GreaterEqual 62) (λ _. plain Greater _ _ 0 refl refl)
sign_reaches LessEqual tail = plain LessEqual _ _ 1 refl refl
sign_reaches GreaterEqual tail = plain GreaterEqual _ _ 1 refl refl
sign_reaches OpenParenthesis [] = plain OpenParenthesis _ _ 0 refl refl
sign_reaches OpenParenthesis (c ∷ cs) = plain OpenParenthesis _ _ 0 refl refl
sign_reaches CloseParenthesis [] = plain CloseParenthesis _ _ 0 refl refl
sign_reaches CloseParenthesis (c ∷ cs) = plain CloseParenthesis _ _ 0 refl refl
sign_reaches OpenBracket [] = plain OpenBracket _ _ 0 refl refl
sign_reaches OpenBracket (c ∷ cs) = plain OpenBracket _ _ 0 refl refl
sign_reaches CloseBracket [] = plain CloseBracket _ _ 0 refl refl
sign_reaches CloseBracket (c ∷ cs) = plain CloseBracket _ _ 0 refl refl
sign_reaches Comma [] = plain Comma _ _ 0 refl refl
sign_reaches Comma (c ∷ cs) = plain Comma _ _ 0 refl refl
sign_reaches Colon [] = plain Colon _ _ 0 refl refl
sign_reaches Colon (c ∷ cs) = plain Colon _ _ 0 refl refl
sign_reaches Dollar [] = plain Dollar _ _ 0 refl refl
sign_reaches Dollar (c ∷ cs) = plain Dollar _ _ 0 refl refl

sign_reaches_at : (s : Sign) (b : ℕ) (txt tail : List ℕ) → b ∷ txt ≡ spelling s → Reaches (kind.Sign s) (b ∷ txt) (front b (txt ++ tail))
sign_reaches_at s b txt tail e = subst (λ (l : List ℕ). Reaches (kind.Sign s) l (first_front (l ++ tail))) (sym e) (sign_reaches s tail)

number_reaches : (b : ℕ) (txt tail whole ds : List ℕ) → b ∷ txt ≡ whole ++ 46 ∷ ds → AreDigits whole → AreDigits ds → 0 < length whole + length ds
    → Reaches kind.Number (b ∷ txt) (front b (txt ++ tail))
number_reaches b txt tail [] ds e digits decimals some =
    subst (λ (l : List ℕ). Reaches kind.Number l (first_front (l ++ tail))) (sym e) (decimals_reach ds tail decimals (omega arith))
number_reaches b txt tail (w ∷ ws) ds e digits decimals some =
    subst (λ (l : List ℕ). Reaches kind.Number l (first_front (l ++ tail))) (sym e) (pointed_reaches w ws ds tail digits decimals)

-- where a front of the bytes has the form of a token, a token stands that is at least as long
pub reach : (k : Kind) (b : ℕ) (txt tail : List ℕ) → HasForm k (b ∷ txt) → Reaches k (b ∷ txt) (front b (txt ++ tail))
reach (kind.Letter l) b txt tail h =
    let alpha = h.2 in
    let start : is_name_start h.0 ≡ true = or_left (is_ascii_alphabetic h.0) (h.0 == 95) alpha in
    subst (λ (t : List ℕ). Reaches (kind.Letter l) t (first_front (t ++ tail))) (sym h.1)
    (subst (λ (f : Front). Reaches (kind.Letter l) (h.0 ∷ []) f) (sym (front-name_start h.0 tail start)) (letter_reaches h.0 l tail alpha h.3))
reach kind.Name b txt tail h =
    subst (λ (t : List ℕ). Reaches kind.Name t (first_front (t ++ tail))) (sym h.3) (name_reaches h.0 h.1 h.2 tail h.4 h.5 h.6)
reach kind.Number b txt tail (inl h) = digits_reach b txt tail h.0
reach kind.Number b txt tail (inr h) = number_reaches b txt tail h.0 h.1 h.2 h.3 h.4 h.5
reach kind.Text b txt tail h =
    subst (λ (t : List ℕ). Reaches kind.Text t (first_front (t ++ tail))) (sym h.1) (text_reaches h.0 tail h.2)
reach (kind.Sign s) b txt tail h = sign_reaches_at s b txt tail h
