-- Steps along the tokens of a line.
use Rattle.std.proofs.Common.{◌≡◌, ℕ, zero, suc, ◌+◌, ◌<◌, ◌≤◌, ◌^◌, Bool, ℤ, pos, negsuc, List, [], ◌∷◌, length, drop, get_or, Option, Some, None, refl, sym, ◌∙◌, ap, arith, tests}
use Rattle.std.specs.Int.RustNames.{unsigned_abs}
use Rattle.std.specs.Option.{option_or}
use Rattle.std.proofs.lemmas.List.{drop_more}
use Rattle.block_scanner.specs.declared.Token.{Token}
use Rattle.block_scanner.specs.Texts.{text_of}
use Rattle.word_tables.specs.GroupWords.{small_whole}
use Rattle.word_tables.specs.Refused.{refused_before, refused_following, refused_kind, refused_first, refused_word, IsLeftmost}

-- what is left of a list from an element on
left : (tokens : List Token) (i : ℕ) (t : Token) → i < length tokens → t ≡ get_or tokens i t → drop i tokens ≡ t ∷ drop (i + 1) tokens
left tokens i t within at = drop_more tokens i t within ∙ ap (λ (u : Token). u ∷ drop (i + 1) tokens) (sym at)

pub first_at : (compensation : Bool) (line : List ℕ) (tokens : List Token) (i : ℕ) (t : Token) → i < length tokens → t ≡ get_or tokens i t
    → refused_first compensation line (drop i tokens) ≡ refused_kind compensation line t.kind (text_of line t) (drop (i + 1) tokens)
first_at compensation line tokens i t within at = ap (refused_first compensation line) (left tokens i t within at)

pub after_some : (compensation : Bool) (line : List ℕ) (tokens : List Token) (i : ℕ) (t : Token) → i < length tokens → t ≡ get_or tokens i t
    → refused_following compensation line (drop i tokens) ≡ refused_before compensation t.kind (text_of line t)
after_some compensation line tokens i t within at = ap (refused_following compensation line) (left tokens i t within at)

nothing_left : (tokens : List Token) (i : ℕ) → length tokens ≤ i → drop i tokens ≡ []
nothing_left [] zero past = refl
nothing_left [] (suc i) past = refl
nothing_left (t ∷ ts) zero past = absurd (omega arith)
nothing_left (t ∷ ts) (suc i) past = nothing_left ts i (omega arith)

pub after_none : (compensation : Bool) (line : List ℕ) (tokens : List Token) (i : ℕ) → length tokens ≤ i
    → refused_following compensation line (drop i tokens) ≡ None
after_none compensation line tokens i past = ap (refused_following compensation line) (nothing_left tokens i past)

pub ruleset after_at = (after_some, after_none)

-- the leftmost refused word, where a token is none
pub word_passes : (compensation : Bool) (line : List ℕ) (tokens : List Token) (i : ℕ) (d : Token) → i < length tokens
    → refused_first compensation line (drop i tokens) ≡ None
    → refused_word compensation line (drop i tokens) ≡ refused_word compensation line (drop (i + 1) tokens)
word_passes compensation line tokens i d within none =
    let first = drop_more tokens i d within in
    ap (refused_word compensation line) first
    ∙ ap (λ o. option_or o (refused_word compensation line (drop (i + 1) tokens))) (sym (ap (refused_first compensation line) first) ∙ none)

pub word_found : (compensation : Bool) (line : List ℕ) (tokens : List Token) (i code : ℕ) (d : Token) → i < length tokens
    → refused_first compensation line (drop i tokens) ≡ Some code
    → refused_word compensation line (drop i tokens) ≡ Some code
word_found compensation line tokens i code d within found =
    let first = drop_more tokens i d within in
    ap (refused_word compensation line) first
    ∙ ap (λ o. option_or o (refused_word compensation line (drop (i + 1) tokens))) (sym (ap (refused_first compensation line) first) ∙ found)

pub word_ends : (compensation : Bool) (line : List ℕ) (tokens : List Token) (i : ℕ) → length tokens ≤ i
    → refused_word compensation line (drop i tokens) ≡ None
word_ends compensation line tokens i past = ap (refused_word compensation line) (nothing_left tokens i past)

pub ruleset word_steps = (word_passes, word_found, word_ends)

-- a number that is too large is none of the small ones
pub whole_none : (z : ℤ) → ¬ (unsigned_abs z < 10 ^ 14) → small_whole z ≡ None
unfolding small_whole
whole_none (pos n) out = grind (arith, tests)
whole_none (negsuc n) out = refl

-- where no token was refused, none is with one more at the left that is not
none_following : (compensation : Bool) (line : List ℕ) (t : Token) (ts : List Token) → refused_first compensation line (t ∷ ts) ≡ None → (bound : ℕ)
    → ((place : ℕ) → place < bound → refused_first compensation line (drop place ts) ≡ None)
    → (place : ℕ) → place < suc bound → refused_first compensation line (drop place (t ∷ ts)) ≡ None
none_following compensation line t ts h bound others zero less = h
none_following compensation line t ts h bound others (suc place) less = others place (omega arith)

leftmost_after : (compensation : Bool) (line : List ℕ) (t : Token) (ts : List Token) (o : Option ℕ)
    → refused_first compensation line (t ∷ ts) ≡ None → IsLeftmost compensation line ts o → IsLeftmost compensation line (t ∷ ts) o
leftmost_after compensation line t ts None h others =
    λ place. none_following compensation line t ts h (place + 1) (λ n less. others n) place (omega arith)
leftmost_after compensation line t ts (Some code) h others =
    let within = others.1 in
    (suc others.0, omega arith, others.2, none_following compensation line t ts h others.0 others.3)

leftmost_from : (compensation : Bool) (line : List ℕ) (t : Token) (ts : List Token) (o : Option ℕ)
    → refused_first compensation line (t ∷ ts) ≡ o → IsLeftmost compensation line ts (refused_word compensation line ts)
    → IsLeftmost compensation line (t ∷ ts) (option_or o (refused_word compensation line ts))
leftmost_from compensation line t ts (Some code) h others = (zero, omega arith, h, λ n less. absurd (omega arith))
leftmost_from compensation line t ts None h others = leftmost_after compensation line t ts (refused_word compensation line ts) h others

pub leftmost : (compensation : Bool) (line : List ℕ) (tokens : List Token) → IsLeftmost compensation line tokens (refused_word compensation line tokens)
leftmost compensation line [] = λ place. ap (refused_first compensation line) (nothing_left [] place (omega arith))
leftmost compensation line (t ∷ ts) =
    leftmost_from compensation line t ts (refused_first compensation line (t ∷ ts)) refl (leftmost compensation line ts)
