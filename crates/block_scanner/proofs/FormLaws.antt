-- What stands at a byte has the form of its kind.
use Rattle.std.proofs.Common.{◌≡◌, ◌≢◌, ℕ, suc, ◌+◌, ◌<◌, ◌≤◌, Bool, true, false, not, cond, ◌&&◌, ◌||◌, ◌==◌, nat_lt, inl, inr, List, [], ◌∷◌, ◌++◌, length, take, drop, Option, Some, None, position, refl, sym, ◌∙◌, ap, subst, arith}
use Rattle.std.specs.List.{list_all, prefix_len}
use Rattle.std.specs.Option.{MatchOption}
use Rattle.std.specs.Char.{is_ascii_alphabetic, is_ascii_digit}
use Rattle.std.proofs.lemmas.Bool.{and_parts, and_from, cond_both, not-false, not_from_false, eqb-true, eqb-false, lt-ltb, le-ltb}
use Rattle.std.proofs.lemmas.List.{take_at, drop_at, length-append, append-nil}
use Rattle.std.proofs.lemmas.List.Sums.{prefix_len-le-length}
use Rattle.block_scanner.specs.declared.Kind.TheVariants as kind
use Rattle.block_scanner.specs.declared.Sign.{Sign}
use Rattle.block_scanner.specs.declared.beginnings.Front.{Front}
use Rattle.block_scanner.specs.declared.beginnings.Front.TheVariants.{Blank, Comment, Stands, Forbidden, Unclosed}
use Rattle.block_scanner.specs.Bytes.{is_blank, is_semicolon, is_quote, is_point, is_name_start, is_name_part, begins_with}
use Rattle.block_scanner.specs.Front.{front, word_front, text_front, number_more, sign_front, one_sign, two_or_one_sign}
use Rattle.block_scanner.specs.Signs.{spelling, short_sign, long_sign}
use Rattle.block_scanner.specs.Tokenisation.{HasForm, IsNumber, AreDigits, HasNoQuote}
use Rattle.block_scanner.proofs.Prefixes.{Cut, cut, stops_at, take-append-more, drop-append-more, prefix_len-append, list_all-take_prefix}

-- what a byte is not where no token begins
abbrev pub IsOther : ℕ → Type 0
IsOther byte = (not (is_blank byte) ≡ true) × (byte ≢ 59) × (byte ≢ 34)

-- what holds of a byte and those after it
abbrev pub Sound : ℕ → List ℕ → Front → Type 0
Sound b bs Blank = is_blank b ≡ true
Sound b bs Comment = b ≡ 59
Sound b bs (Stands kind more) = (more ≤ length bs) × HasForm kind (b ∷ take more bs)
Sound b bs Forbidden = IsOther b
Sound b bs Unclosed = (b ≡ 34) × HasNoQuote bs

abbrev pub no_quote : ℕ → Bool
no_quote x = not (is_quote x)

-- the first quote
pub position_some : (bs : List ℕ) (n : ℕ) → prefix_len no_quote bs ≡ n → n < length bs → position is_quote bs ≡ Some n
position_some bs n at within =
    ap (λ m. cond (nat_lt m (length bs)) (Some m) None) at ∙ ap (λ b. cond b (Some n) None) (lt-ltb n (length bs) within)

pub position_none : (bs : List ℕ) → prefix_len no_quote bs ≡ length bs → position is_quote bs ≡ None
position_none bs at =
    ap (λ m. cond (nat_lt m (length bs)) (Some m) None) at
    ∙ ap (λ b. cond b (Some (length bs)) None) (le-ltb (length bs) (length bs) (omega arith))

text_sound : (bs : List ℕ) → Sound 34 bs (text_front (position is_quote bs))
text_sound bs = by (cut no_quote bs).following (cut no_quote bs).joined (cut no_quote bs).stops
  where
    c : Cut no_quote bs
    c = cut no_quote bs

    by : (rest : List ℕ) → bs ≡ (cut no_quote bs).front ++ rest → prefix_len no_quote rest ≡ 0 → Sound 34 bs (text_front (position is_quote bs))
    by [] joined stops =
        let c = cut no_quote bs in
        let whole : bs ≡ c.front = joined ∙ append-nil c.front in
        let same : length bs ≡ length c.front = ap length whole in
        subst (λ (f : Front). Sound 34 bs f) (sym (ap text_front (position_none bs (c.long ∙ sym same))))
        (refl, subst (λ (l : List ℕ). HasNoQuote l) (sym whole) c.holds)
    by (q ∷ rest) joined stops =
        let c = cut no_quote bs in
        let long : length bs ≡ length c.front + suc (length rest) = ap length joined ∙ length-append c.front (q ∷ rest) in
        let quote : q ≡ 34 = eqb-true q 34 (not-false (is_quote q) (stops_at no_quote q rest stops)) in
        let text : take (length c.front + 1) bs ≡ c.front ++ 34 ∷ [] =
        ap (take (length c.front + 1)) joined ∙ take-append-more c.front (q ∷ rest) 1 ∙ ap (λ x. c.front ++ x ∷ []) quote in
        subst (λ (f : Front). Sound 34 bs f) (sym (ap text_front (position_some bs (length c.front) c.long (omega arith))))
        (omega arith, (c.front, ap (λ l. 34 ∷ l) text, c.holds))

part_of_start : (d a b u : Bool) → ((a || b) || u) ≡ true → (((d || a) || b) || u) ≡ true
part_of_start true a b u h = refl
part_of_start false a b u h = h

-- what begins a name is a part of one
pub start_is_part : (c : ℕ) → is_name_start c ≡ true → is_name_part c ≡ true
start_is_part c h = part_of_start (is_ascii_digit c) _ _ (c == 95) h

name_sound : (b : ℕ) (bs : List ℕ) → is_name_start b ≡ true → begins_with is_name_start bs ≡ true → Sound b bs (Stands kind.Name (prefix_len is_name_part bs))
name_sound b [] h e = absurd (cc)
name_sound b (c ∷ cs) h e =
    let n = prefix_len is_name_part cs in
    let long : prefix_len is_name_part (c ∷ cs) ≡ suc n = ap (λ t. cond t (1 + n) 0) (start_is_part c e) ∙ omega arith in
    let fits : suc n ≤ length (c ∷ cs) = omega (arith, prefix_len-le-length is_name_part cs) in
    subst (λ (m : ℕ). Sound b (c ∷ cs) (Stands kind.Name m)) (sym long)
    (fits, (b, c, take n cs, refl, h, e, list_all-take_prefix is_name_part cs))

word_sound : (b : ℕ) (bs : List ℕ) → is_name_start b ≡ true → IsOther b → Sound b bs (word_front b bs)
unfolding word_front
word_sound b bs h other =
    let P = λ (f : Front). Sound b bs f in
    cond_both (begins_with is_name_start bs) _ _ P (λ two. name_sound b bs h two)
    (λ one. cond_both (is_ascii_alphabetic b) _ _ P (λ letter. (omega arith, (b, refl, letter, refl))) (λ none. other))

-- how a number goes on after its first digits
abbrev pub more_after : ℕ → List ℕ → ℕ
more_after w [] = w
more_after w (c ∷ cs) = cond (is_point c) (w + 1 + prefix_len is_ascii_digit cs) w

pub number_more-append : (ws rest : List ℕ) → AreDigits ws → prefix_len is_ascii_digit rest ≡ 0 → number_more (ws ++ rest) ≡ more_after (length ws) rest
unfolding number_more
number_more-append ws rest digits stops =
    let M : ℕ → ℕ = λ n. cond (begins_with is_point (drop n (ws ++ rest))) (n + 1 + prefix_len is_ascii_digit (drop (n + 1) (ws ++ rest))) n in
    let long : prefix_len is_ascii_digit (ws ++ rest) ≡ length ws = prefix_len-append is_ascii_digit ws rest digits ∙ omega arith in
    let w = length ws in
    ap M long
    ∙ ap (λ l. cond (begins_with is_point l) (w + 1 + prefix_len is_ascii_digit (drop (w + 1) (ws ++ rest))) w) (drop_at ws rest w refl)
    ∙ ap (λ l. cond (begins_with is_point rest) (w + 1 + prefix_len is_ascii_digit l) w) (drop-append-more ws rest 1)
    ∙ by rest
  where
    by : (xs : List ℕ) → cond (begins_with is_point xs) (length ws + 1 + prefix_len is_ascii_digit (drop 1 xs)) (length ws) ≡ more_after (length ws) xs
    by [] = refl
    by (x ∷ xs) = refl

number_of_cut : (b : ℕ) (ws rest : List ℕ) → is_ascii_digit b ≡ true → AreDigits ws → Sound b (ws ++ rest) (Stands kind.Number (more_after (length ws) rest))
number_of_cut b ws [] digit digits =
    let text : take (length ws) (ws ++ []) ≡ ws = take_at ws [] (length ws) refl in
    let fits : length ws ≤ length (ws ++ []) = omega (arith, length-append ws []) in
    (fits, subst (λ (l : List ℕ). IsNumber (b ∷ l)) (sym text) (inl (and_from (is_ascii_digit b) (list_all is_ascii_digit ws) digit digits, omega arith)))
number_of_cut b ws (c ∷ cs) digit digits =
    let all : AreDigits (b ∷ ws) = and_from (is_ascii_digit b) (list_all is_ascii_digit ws) digit digits in
    let d = prefix_len is_ascii_digit cs in
    let long = length-append ws (c ∷ cs) in
    cond_both (is_point c) (length ws + 1 + d) (length ws) (λ (n : ℕ). Sound b (ws ++ c ∷ cs) (Stands kind.Number n))
    (λ point.
    let same : length ws + 1 + d ≡ length ws + suc d = omega arith in
    let text : take (length ws + 1 + d) (ws ++ c ∷ cs) ≡ ws ++ 46 ∷ take d cs =
    ap (λ n. take n (ws ++ c ∷ cs)) same ∙ take-append-more ws (c ∷ cs) (suc d) ∙ ap (λ x. ws ++ x ∷ take d cs) (eqb-true c 46 point) in
    let fits : length ws + 1 + d ≤ length (ws ++ c ∷ cs) = omega (arith, long, prefix_len-le-length is_ascii_digit cs) in
    (fits, inr (b ∷ ws, take d cs, ap (λ l. b ∷ l) text, all, list_all-take_prefix is_ascii_digit cs, omega arith)))
    (λ none.
    let text : take (length ws) (ws ++ c ∷ cs) ≡ ws = take_at ws (c ∷ cs) (length ws) refl in
    let fits : length ws ≤ length (ws ++ c ∷ cs) = omega (arith, long) in
    (fits, subst (λ (l : List ℕ). IsNumber (b ∷ l)) (sym text) (inl (all, omega arith))))

number_sound : (b : ℕ) (bs : List ℕ) → is_ascii_digit b ≡ true → Sound b bs (Stands kind.Number (number_more bs))
number_sound b bs digit =
    let c = cut is_ascii_digit bs in
    let P = λ (l : List ℕ). Sound b l (Stands kind.Number (number_more l)) in
    subst P (sym c.joined)
    (subst (λ (n : ℕ). Sound b (c.front ++ c.following) (Stands kind.Number n)) (sym (number_more-append c.front c.following c.holds c.stops))
    (number_of_cut b c.front c.following digit c.holds))

point_sound : (b : ℕ) (bs : List ℕ) → b ≡ 46 → begins_with is_ascii_digit bs ≡ true → Sound b bs (Stands kind.Number (prefix_len is_ascii_digit bs))
point_sound b [] point digit = absurd (cc)
point_sound b (c ∷ cs) point digit =
    let n = prefix_len is_ascii_digit cs in
    let long : prefix_len is_ascii_digit (c ∷ cs) ≡ suc n = ap (λ t. cond t (1 + n) 0) digit ∙ omega arith in
    let fits : suc n ≤ length (c ∷ cs) = omega (arith, prefix_len-le-length is_ascii_digit cs) in
    subst (λ (m : ℕ). Sound b (c ∷ cs) (Stands kind.Number m)) (sym long)
    (fits, inr ([], c ∷ take n cs, ap (λ x. x ∷ c ∷ take n cs) point, refl, and_from (is_ascii_digit c) (list_all is_ascii_digit (take n cs)) digit (list_all-take_prefix is_ascii_digit cs), omega arith))

-- a sign that there may be is spelled so
abbrev pub Spells : List ℕ → Option Sign → Type 0
Spells text sign = MatchOption sign (Unit {0}) (λ s. text ≡ spelling s)

one : (b n : ℕ) → (b == n) ≡ true → b ∷ [] ≡ n ∷ []
one b n h = ap (λ x. x ∷ []) (eqb-true b n h)

two : (b c m n : ℕ) → ((b == m) && (c == n)) ≡ true → b ∷ c ∷ [] ≡ m ∷ n ∷ []
two b c m n h =
    let parts = and_parts (b == m) (c == n) h in
    ap (λ x. x ∷ c ∷ []) (eqb-true b m parts.0) ∙ ap (λ y. m ∷ y ∷ []) (eqb-true c n parts.1)

short_spells : (b : ℕ) → Spells (b ∷ []) (short_sign b)
unfolding short_sign
short_spells b =
    let P = λ (o : Option Sign). Spells (b ∷ []) o in
    cond_both (b == 43) _ _ P (one b 43) (λ _.
    cond_both (b == 45) _ _ P (one b 45) (λ _.
    cond_both (b == 42) _ _ P (one b 42) (λ _.
    cond_both (b == 47) _ _ P (one b 47) (λ _.
    cond_both (b == 61) _ _ P (one b 61) (λ _.
    cond_both (b == 60) _ _ P (one b 60) (λ _.
    cond_both (b == 62) _ _ P (one b 62) (λ _.
    cond_both (b == 40) _ _ P (one b 40) (λ _.
    cond_both (b == 41) _ _ P (one b 41) (λ _.
    cond_both (b == 91) _ _ P (one b 91) (λ _.
    cond_both (b == 93) _ _ P (one b 93) (λ _.
    cond_both (b == 44) _ _ P (one b 44) (λ _.
    cond_both (b == 58) _ _ P (one b 58) (λ _.
    cond_both (b == 36) _ _ P (one b 36) (λ _. tt))))))))))))))

long_spells : (b c : ℕ) → Spells (b ∷ c ∷ []) (long_sign b c)
unfolding long_sign
long_spells b c =
    let P = λ (o : Option Sign). Spells (b ∷ c ∷ []) o in
    cond_both ((b == 61) && (c == 61)) _ _ P (two b c 61 61) (λ _.
    cond_both ((b == 60) && (c == 62)) _ _ P (two b c 60 62) (λ _.
    cond_both ((b == 60) && (c == 61)) _ _ P (two b c 60 61) (λ _.
    cond_both ((b == 62) && (c == 61)) _ _ P (two b c 62 61) (λ _. tt))))

one_sound : (b : ℕ) (bs : List ℕ) → IsOther b → (o : Option Sign) → Spells (b ∷ []) o → Sound b bs (one_sign o)
one_sound b bs other (Some s) h = (omega arith, h)
one_sound b bs other None h = other

two_sound : (b c : ℕ) (cs : List ℕ) → IsOther b → (o : Option Sign) → Spells (b ∷ c ∷ []) o → Sound b (c ∷ cs) (two_or_one_sign o b)
two_sound b c cs other (Some s) h = (omega arith, h)
two_sound b c cs other None h = one_sound b (c ∷ cs) other (short_sign b) (short_spells b)

sign_sound : (b : ℕ) (bs : List ℕ) → IsOther b → Sound b bs (sign_front b bs)
unfolding sign_front
sign_sound b [] other = one_sound b [] other (short_sign b) (short_spells b)
sign_sound b (c ∷ cs) other = two_sound b c cs other (long_sign b c) (long_spells b c)

pub front_sound : (b : ℕ) (bs : List ℕ) → Sound b bs (front b bs)
unfolding front
front_sound b bs =
    let P = λ (f : Front). Sound b bs f in
    cond_both (is_blank b) _ _ P (λ blank. blank) (λ not_blank.
    cond_both (is_semicolon b) _ _ P (λ semicolon. eqb-true b 59 semicolon) (λ not_semicolon.
    cond_both (is_quote b) _ _ P (λ quote. subst (λ (x : ℕ). Sound x bs (text_front (position is_quote bs))) (sym (eqb-true b 34 quote)) (text_sound bs)) (λ not_quote.
    let other : IsOther b = (not_from_false (is_blank b) not_blank, eqb-false b 59 not_semicolon, eqb-false b 34 not_quote) in
    cond_both (is_name_start b) _ _ P (λ start. word_sound b bs start other) (λ _.
    cond_both (is_ascii_digit b) _ _ P (λ digit. number_sound b bs digit) (λ _.
    cond_both (is_point b && begins_with is_ascii_digit bs) _ _ P
    (λ both. let parts = and_parts (is_point b) (begins_with is_ascii_digit bs) both in point_sound b bs (eqb-true b 46 parts.0) parts.1)
    (λ _. sign_sound b bs other))))))
