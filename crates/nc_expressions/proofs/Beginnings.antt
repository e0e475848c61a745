-- The symbol at a place of a line.
use Rattle.std.proofs.Common.{◌≡◌, ℕ, zero, suc, ◌-◌, ◌<◌, ◌≤◌, List, [], ◌∷◌, length, get_or, take, drop, inl, inr, refl, ap, sym, ◌∙◌, Option, Some, None, arith}
use Rattle.std.specs.Prelude.{min, slice_get}
use Rattle.std.proofs.lemmas.Bool.{cases_lt}
use Rattle.std.proofs.lemmas.List.{take_all, drop_all}
use Rattle.std.proofs.lemmas.Option.{slice_get_read, slice_get_past}
use Rattle.block_scanner.specs.declared.Token.{Token}
use Rattle.block_scanner.specs.WordsView.{WordsView}
use Rattle.nc_expressions.specs.declared.symbols.Symbol.{Symbol}
use Rattle.nc_expressions.specs.Symbols.{symbol_of, symbols_after, symbols_of, token_before}

pub before_first : (tokens : List Token) → token_before None tokens 0 ≡ None
before_first tokens = refl

before_suc : (before : Option Token) (tokens : List Token) (at : ℕ) (d : Token) → at < length tokens → token_before before tokens (suc at) ≡ Some (get_or tokens at d)
before_suc before [] at d h = absurd (omega arith)
before_suc before (t ∷ ts) zero d h = refl
before_suc before (t ∷ ts) (suc at) d h = before_suc (Some t) ts at d (omega arith)

pub before_later : (tokens : List Token) (at : ℕ) (t : Token) → 0 < at → at - 1 < length tokens → t ≡ get_or tokens (at - 1) t → token_before None tokens at ≡ Some t
before_later tokens zero t h within is = absurd (omega arith)
before_later tokens (suc at) t h within is =
    let e : suc at - 1 ≡ at = omega arith in
    let w : at < length tokens = omega arith in
    let is' : t ≡ get_or tokens at t = is ∙ ap (λ (i : ℕ). get_or tokens i t) e in
    before_suc None tokens at t w ∙ ap (λ (x : Token). Some x) (sym is')

pub ruleset befores = (before_first, before_later)

symbol_after : (line : List ℕ) (before : Option Token) (tokens : List Token) (at : ℕ) (t : Token) (d : Symbol) → at < length tokens → t ≡ get_or tokens at t →
    get_or (symbols_after line before tokens) at d ≡ symbol_of line (token_before before tokens at) t
symbol_after line before [] at t d h is = absurd (omega arith)
symbol_after line before (u ∷ us) zero t d h is = ap (λ (x : Token). symbol_of line before x) (sym is)
symbol_after line before (u ∷ us) (suc at) t d h is = symbol_after line (Some u) us at t d (omega arith) is

pub symbol_read : (words : WordsView) (at : ℕ) (t : Token) (s : Symbol) → at < length words.tokens → t ≡ get_or words.tokens at t →
    s ≡ symbol_of words.line (token_before None words.tokens at) t → s ≡ get_or (symbols_of words) at s
unfolding symbols_of
symbol_read words at t s h is e = e ∙ sym (symbol_after words.line None words.tokens at t s h is)

pub length-symbols_after : (line : List ℕ) (before : Option Token) (tokens : List Token) → length (symbols_after line before tokens) ≡ length tokens
length-symbols_after line before [] = refl
length-symbols_after line before (t ∷ ts) = ap suc (length-symbols_after line (Some t) ts)

pub length-symbols_of : (words : WordsView) → length (symbols_of words) ≡ length words.tokens
unfolding symbols_of
length-symbols_of words = length-symbols_after words.line None words.tokens

-- the first two bytes of a text, or all of a shorter one
pub take_min : (xs : List ℕ) (n : ℕ) → take (min (length xs) n) xs ≡ take n xs
take_min xs n =
    elim (cases_lt (length xs) n) [
      | inl h ↦ let e : min (length xs) n ≡ length xs = omega arith in
          ap (λ (k : ℕ). take k xs) e ∙ take_all (length xs) xs (omega arith) ∙ sym (take_all n xs (omega arith))
      | inr h ↦ let e : min (length xs) n ≡ n = omega arith in ap (λ (k : ℕ). take k xs) e
    ]

pub drop_min : (xs : List ℕ) (n : ℕ) → drop (min (length xs) n) xs ≡ drop n xs
drop_min xs n =
    elim (cases_lt (length xs) n) [
      | inl h ↦ let e : min (length xs) n ≡ length xs = omega arith in
          ap (λ (k : ℕ). drop k xs) e ∙ drop_all (length xs) xs (omega arith) ∙ sym (drop_all n xs (omega arith))
      | inr h ↦ let e : min (length xs) n ≡ n = omega arith in ap (λ (k : ℕ). drop k xs) e
    ]

pub ruleset split_short = (take_min, drop_min)

pub within_line : (words : WordsView) (at : ℕ) (s : Symbol) → at < length words.tokens → s ≡ get_or (symbols_of words) at s → slice_get (symbols_of words) at ≡ Some s
within_line words at s h is = slice_get_read (symbols_of words) (length words.tokens) at s (sym (length-symbols_of words)) h is

pub past_line : (words : WordsView) (at : ℕ) → length words.tokens ≤ at → slice_get (symbols_of words) at ≡ None
past_line words at h = slice_get_past (symbols_of words) at (omega (arith, length-symbols_of words))

pub ruleset read_at = (within_line, past_line)
