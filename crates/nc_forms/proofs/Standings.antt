-- What a piece at a place says of the symbols of a line.
use Rattle.std.proofs.Common.{◌≡◌, ℕ, zero, suc, ◌+◌, ◌-◌, ◌<◌, ◌≤◌, List, [], ◌∷◌, ◌++◌, length, take, drop, refl, ap, sym, ◌∙◌, subst, inl, inr, Option, Some, None, Result, Ok, Err, Bool, true, false, cond, arith, append_assoc}
use Rattle.std.specs.Prelude.{ℤ, ◌^◌, ◌==◌, ◌&&◌, nat_lt, slice_get, slice_range}
use Rattle.std.specs.Str.{str_to_ascii_lowercase}
use Rattle.std.specs.Int.RustNames.{unsigned_abs}
use Rattle.std.proofs.lemmas.List.{take-append-drop, length-append, length-drop, drop-drop, drop_all, drop_more}
use Rattle.std.proofs.lemmas.Option.{slice_get_within, get_or_from_slice_get}
use Rattle.std.proofs.lemmas.Bool.{cases_lt}
use Rattle.std.proofs.lemmas.Slice.Eq.{bytes_eq-Decides}
use Rattle.std.proofs.Math.Seq.{take-append_seam, drop-append_seam}
use Rattle.block_scanner.specs.declared.Kind.{Kind}
use Rattle.block_scanner.specs.declared.Kind.TheVariants as kind
use Rattle.block_scanner.specs.declared.Sign.{Sign}
use Rattle.block_scanner.specs.declared.Sign.TheVariants as sign
use Rattle.block_scanner.specs.declared.Token.{Token}
use Rattle.block_scanner.specs.WordsView.{WordsView}
use Rattle.block_scanner.specs.Texts.{text_of}
use Rattle.micro_units.specs.NumberText.{number_of}
use Rattle.nc_expressions.specs.declared.trees.BinaryOp.TheVariants.{Add, Sub, Div}
use Rattle.nc_expressions.specs.declared.symbols.Symbol.{Symbol}
use Rattle.nc_expressions.specs.declared.symbols.Symbol.TheVariants as symbol
use Rattle.nc_expressions.specs.Limits.{all_limits}
use Rattle.nc_expressions.specs.Machine.{Reading, read}
use Rattle.nc_expressions.specs.Parsing.{reading_with_place, expr_at}
use Rattle.nc_expressions.specs.Symbols.{symbol_of, symbols_of, symbols_after, kind_symbol, sign_symbol, name_symbol, value_symbol, is_digits, number_symbol, is_word, touches_number, is_exponent}
use Rattle.nc_expressions.specs.Syntax.{Syntax, Constant, Truth, Positive, Negative, Denied, Named, Indexing, Called, Grouped, Chained, spelling, tree, Follows}
use Rattle.nc_expressions.specs.Tree.{Tree}
use Rattle.nc_expressions.proofs.Beginnings.{length-symbols_of}
use Rattle.nc_expressions.proofs.Complete.{complete}
use Rattle.nc_expressions.proofs.Sound.{sound}
use Rattle.nc_blocks.specs.declared.pieces.Piece.{Piece}
use Rattle.nc_blocks.specs.declared.pieces.Piece.TheVariants as piece
use Rattle.nc_blocks.specs.Pieces.{sign_piece, number_piece, plain_piece, piece_of, found_piece, piece_at, found_text, text_at, is_name}
use Rattle.nc_blocks.specs.Marks.{is_keyword}
use Rattle.nc_blocks.specs.Reading.{expression_at, in_words, value_at}
use Rattle.nc_forms.specs.Standing.{IsExpressionText}
use Rattle.nc_expressions.specs.Stops.{stop_at}

-- a word that stands there has the letters of that word
pub same_letters : (text word : List ℕ) → is_word text word ≡ true → str_to_ascii_lowercase text ≡ str_to_ascii_lowercase word
same_letters text word h = (bytes_eq-Decides (str_to_ascii_lowercase text) (str_to_ascii_lowercase word)).0 h

-- the symbol of what stands at a place, where its piece tells it
abbrev pub symbol_for : Piece → List ℕ → Symbol
symbol_for piece.End text = symbol.Other
symbol_for (piece.Letter b) text = cond (b == 82) symbol.Letter symbol.Other
symbol_for piece.Name text = name_symbol text
symbol_for (piece.Number z) text = symbol.Number z (is_digits text)
symbol_for piece.Text text = symbol.Other
symbol_for piece.Plus text = symbol.Operator Add
symbol_for piece.Minus text = symbol.Operator Sub
symbol_for piece.Slash text = symbol.Operator Div
symbol_for piece.Assign text = symbol.Other
symbol_for piece.Open text = symbol.Open
symbol_for piece.Close text = symbol.Close
symbol_for piece.OpenBracket text = symbol.OpenBracket
symbol_for piece.CloseBracket text = symbol.CloseBracket
symbol_for piece.Comma text = symbol.Other
symbol_for piece.Colon text = symbol.Other
symbol_for piece.Other text = symbol.Other
symbol_for piece.Broken text = symbol.Other

abbrev pub Tells : Piece → Type 0
Tells piece.End = ⊥
Tells (piece.Letter b) = Unit {0}
Tells piece.Name = Unit {0}
Tells (piece.Number z) = Unit {0}
Tells piece.Text = Unit {0}
Tells piece.Plus = Unit {0}
Tells piece.Minus = Unit {0}
Tells piece.Slash = Unit {0}
Tells piece.Assign = Unit {0}
Tells piece.Open = Unit {0}
Tells piece.Close = Unit {0}
Tells piece.OpenBracket = Unit {0}
Tells piece.CloseBracket = Unit {0}
Tells piece.Comma = Unit {0}
Tells piece.Colon = Unit {0}
Tells piece.Other = ⊥
Tells piece.Broken = ⊥

neither : (P : Symbol → Type 0) (b : Bool) (x y : Symbol) → P x → P y → P (cond b x y)
neither P true x y h i = h
neither P false x y h i = i

abbrev NoExponent : Symbol → Type 0
NoExponent symbol.Exponent = ⊥
NoExponent s = Unit {0}

abbrev exponent : Symbol → Bool
exponent symbol.Exponent = true
exponent s = false

exponent_no : (s : Symbol) → exponent s ≡ false → NoExponent s
exponent_no symbol.Exponent h = cc
exponent_no s h = tt

value_no_exponent : (text : List ℕ) → exponent (value_symbol text) ≡ false
unfolding value_symbol
value_no_exponent text = grind arith

name_exponent : (text : List ℕ) → exponent (name_symbol text) ≡ false
unfolding name_symbol
name_exponent text = grind (arith, value_no_exponent)

name_no_exponent : (text : List ℕ) → NoExponent (name_symbol text)
name_no_exponent text = exponent_no (name_symbol text) (name_exponent text)

number_no_exponent : (o : Option ℤ) (digits : Bool) → NoExponent (number_symbol o digits)
unfolding number_symbol
number_no_exponent (Some z) digits = neither (λ (s : Symbol). NoExponent s) (nat_lt (unsigned_abs z) (10 ^ 14)) (symbol.Number z digits) symbol.Other tt tt
number_no_exponent None digits = tt

sign_no_exponent : (s : Sign) → NoExponent (sign_symbol s)
unfolding sign_symbol
sign_no_exponent sign.Plus = tt
sign_no_exponent sign.Minus = tt
sign_no_exponent sign.Times = tt
sign_no_exponent sign.Slash = tt
sign_no_exponent sign.Assign = tt
sign_no_exponent sign.Equal = tt
sign_no_exponent sign.NotEqual = tt
sign_no_exponent sign.Less = tt
sign_no_exponent sign.Greater = tt
sign_no_exponent sign.LessEqual = tt
sign_no_exponent sign.GreaterEqual = tt
sign_no_exponent sign.OpenParenthesis = tt
sign_no_exponent sign.CloseParenthesis = tt
sign_no_exponent sign.OpenBracket = tt
sign_no_exponent sign.CloseBracket = tt
sign_no_exponent sign.Comma = tt
sign_no_exponent sign.Colon = tt
sign_no_exponent sign.Dollar = tt

no_exponent : (k : Kind) (text : List ℕ) → NoExponent (kind_symbol k text)
unfolding kind_symbol
no_exponent (kind.Letter b) text = neither (λ (s : Symbol). NoExponent s) (b == 82) symbol.Letter symbol.Other tt tt
no_exponent kind.Name text = name_no_exponent text
no_exponent kind.Number text = number_no_exponent (number_of text) (is_digits text)
no_exponent kind.Text text = tt
no_exponent (kind.Sign s) text = sign_no_exponent s

plain_of : (t : Token) (s : Symbol) → NoExponent s → piece_of t s ≡ plain_piece t.kind t.start t.end s
unfolding piece_of
plain_of t symbol.Exponent h = absurd h
plain_of t s h = refl

name_tells : (b : Bool) (text : List ℕ) → Tells (cond b piece.Broken piece.Name) → name_symbol text ≡ symbol_for (cond b piece.Broken piece.Name) text
name_tells true text h = absurd h
name_tells false text h = refl

abbrev chosen_number : Bool → ℤ → List ℕ → Symbol
chosen_number b z text = cond b (symbol.Number z (is_digits text)) symbol.Other

number_tells' : (b : Bool) (z : ℤ) (text : List ℕ) → Tells (number_piece (chosen_number b z text)) →
    chosen_number b z text ≡ symbol_for (number_piece (chosen_number b z text)) text
unfolding number_piece
number_tells' true z text h = refl
number_tells' false z text h = absurd h

number_tells : (o : Option ℤ) (text : List ℕ) → Tells (number_piece (number_symbol o (is_digits text))) →
    number_symbol o (is_digits text) ≡ symbol_for (number_piece (number_symbol o (is_digits text))) text
unfolding number_symbol number_piece
number_tells (Some z) text h = number_tells' (nat_lt (unsigned_abs z) (10 ^ 14)) z text h
number_tells None text h = absurd h

sign_tells : (s : Sign) (text : List ℕ) → Tells (sign_piece s) → sign_symbol s ≡ symbol_for (sign_piece s) text
unfolding sign_symbol sign_piece
sign_tells sign.Plus text h = refl
sign_tells sign.Minus text h = refl
sign_tells sign.Times text h = absurd h
sign_tells sign.Slash text h = refl
sign_tells sign.Assign text h = refl
sign_tells sign.Equal text h = absurd h
sign_tells sign.NotEqual text h = absurd h
sign_tells sign.Less text h = absurd h
sign_tells sign.Greater text h = absurd h
sign_tells sign.LessEqual text h = absurd h
sign_tells sign.GreaterEqual text h = absurd h
sign_tells sign.OpenParenthesis text h = refl
sign_tells sign.CloseParenthesis text h = refl
sign_tells sign.OpenBracket text h = refl
sign_tells sign.CloseBracket text h = refl
sign_tells sign.Comma text h = refl
sign_tells sign.Colon text h = refl
sign_tells sign.Dollar text h = absurd h

kind_tells : (k : Kind) (text : List ℕ) (from to : ℕ) → Tells (plain_piece k from to (kind_symbol k text)) →
    kind_symbol k text ≡ symbol_for (plain_piece k from to (kind_symbol k text)) text
unfolding kind_symbol plain_piece
kind_tells (kind.Letter b) text from to h = refl
kind_tells kind.Name text from to h = name_tells (nat_lt (from + 32) to) text h
kind_tells kind.Number text from to h = number_tells (number_of text) text h
kind_tells kind.Text text from to h = refl
kind_tells (kind.Sign s) text from to h = sign_tells s text h

token_tells' : (b : Bool) (t : Token) (text : List ℕ) →
    Tells (piece_of t (cond b symbol.Exponent (kind_symbol t.kind text))) →
    cond b symbol.Exponent (kind_symbol t.kind text) ≡ symbol_for (piece_of t (cond b symbol.Exponent (kind_symbol t.kind text))) text
unfolding piece_of
token_tells' true t text h = absurd h
token_tells' false t text h =
    let e = plain_of t (kind_symbol t.kind text) (no_exponent t.kind text) in
    let P = λ (p : Piece). Tells p in
    kind_tells t.kind text t.start t.end (subst P e h) ∙ ap (λ p. symbol_for p text) (sym e)

token_tells : (line : List ℕ) (before : Option Token) (t : Token) → Tells (piece_of t (symbol_of line before t)) →
    symbol_of line before t ≡ symbol_for (piece_of t (symbol_of line before t)) (text_of line t)
unfolding symbol_of
token_tells line before t h = token_tells' (touches_number before t && is_exponent t.kind (text_of line t)) t (text_of line t) h

pub symbol_there : (line : List ℕ) (before : Option Token) (tokens : List Token) (at : ℕ) (t : Token) → slice_get tokens at ≡ Some t →
    (last : Option Token) × (slice_get (symbols_after line before tokens) at ≡ Some (symbol_of line last t))
symbol_there line before [] at t h = cc
symbol_there line before (u ∷ us) zero t h =
    let e : u ≡ t = cc in (before, ap (λ x. Some (symbol_of line before x)) e)
symbol_there line before (u ∷ us) (suc at) t h = symbol_there line (Some u) us at t h

piece_symbol' : (words : WordsView) (at : ℕ) (o : Option Token) → slice_get words.tokens at ≡ o → Tells (found_piece o (slice_get (symbols_of words) at)) →
    slice_get (symbols_of words) at ≡ Some (symbol_for (found_piece o (slice_get (symbols_of words) at)) (found_text words.line o))
unfolding symbols_of
piece_symbol' words at None e h = absurd h
piece_symbol' words at (Some t) e h =
    let s = symbol_there words.line None words.tokens at t e in
    let P = λ (o : Option Symbol). Tells (found_piece (Some t) o) in
    let Q = λ (o : Option Symbol). o ≡ Some (symbol_for (found_piece (Some t) o) (text_of words.line t)) in
    subst Q (sym s.1) (ap (λ x. Some x) (token_tells words.line s.0 t (subst P s.1 h)))

-- the symbol of a piece that tells it
pub piece_symbol : (words : WordsView) (at : ℕ) (p : Piece) → piece_at words at ≡ p → Tells p → slice_get (symbols_of words) at ≡ Some (symbol_for p (text_at words at))
unfolding piece_at text_at
piece_symbol words at p e h =
    let P = λ (q : Piece). Tells q in
    piece_symbol' words at (slice_get words.tokens at) refl (subst P (sym e) h)
    ∙ ap (λ q. Some (symbol_for q (found_text words.line (slice_get words.tokens at)))) e

-- it stands within the line
pub piece_within : (words : WordsView) (at : ℕ) (p : Piece) → piece_at words at ≡ p → Tells p → at < length words.tokens
piece_within words at p e h = omega (arith, slice_get_within (symbols_of words) at _ (piece_symbol words at p e h), length-symbols_of words)

drop_there : {X : Type 0} (xs : List X) (i : ℕ) (x : X) → slice_get xs i ≡ Some x → drop i xs ≡ x ∷ drop (i + 1) xs
drop_there xs i x h =
    drop_more xs i x (slice_get_within xs i x h) ∙ ap (λ y. y ∷ drop (i + 1) xs) (get_or_from_slice_get xs i x x h)

-- the symbols from there on
pub symbols_from : (words : WordsView) (at : ℕ) (p : Piece) → piece_at words at ≡ p → Tells p →
    drop at (symbols_of words) ≡ symbol_for p (text_at words at) ∷ drop (at + 1) (symbols_of words)
symbols_from words at p e h = drop_there (symbols_of words) at _ (piece_symbol words at p e h)

slice_missing : {X : Type 0} (xs : List X) (i : ℕ) → slice_get xs i ≡ None → length xs ≤ i
slice_missing [] i h = omega arith
slice_missing (x ∷ xs) zero h = cc
slice_missing (x ∷ xs) (suc i) h = omega (arith, slice_missing xs i h)

sign_stands : (s : Sign) → sign_piece s ≡ piece.End → ⊥
unfolding sign_piece
sign_stands sign.Plus h = cc
sign_stands sign.Minus h = cc
sign_stands sign.Times h = cc
sign_stands sign.Slash h = cc
sign_stands sign.Assign h = cc
sign_stands sign.Equal h = cc
sign_stands sign.NotEqual h = cc
sign_stands sign.Less h = cc
sign_stands sign.Greater h = cc
sign_stands sign.LessEqual h = cc
sign_stands sign.GreaterEqual h = cc
sign_stands sign.OpenParenthesis h = cc
sign_stands sign.CloseParenthesis h = cc
sign_stands sign.OpenBracket h = cc
sign_stands sign.CloseBracket h = cc
sign_stands sign.Comma h = cc
sign_stands sign.Colon h = cc
sign_stands sign.Dollar h = cc

name_stands : (b : Bool) → cond b piece.Broken piece.Name ≡ piece.End → ⊥
name_stands true h = cc
name_stands false h = cc

number_stands : (s : Symbol) → number_piece s ≡ piece.End → ⊥
unfolding number_piece
number_stands (symbol.Number z d) h = cc
number_stands s h = cc

kind_stands : (k : Kind) (from to : ℕ) (s : Symbol) → plain_piece k from to s ≡ piece.End → ⊥
unfolding plain_piece
kind_stands (kind.Letter b) from to s h = cc
kind_stands kind.Name from to s h = name_stands (nat_lt (from + 32) to) h
kind_stands kind.Number from to s h = number_stands s h
kind_stands kind.Text from to s h = cc
kind_stands (kind.Sign g) from to s h = sign_stands g h

never_end : (t : Token) (s : Symbol) → piece_of t s ≡ piece.End → ⊥
unfolding piece_of
never_end t symbol.Exponent h = cc
never_end t s h = kind_stands t.kind t.start t.end _ h

named_piece : (p : Piece) (b : Bool) → (is_name p && b) ≡ true → p ≡ piece.Name
named_piece piece.Name b h = refl
named_piece p b h = cc

pub both_true : (a b : Bool) → (a && b) ≡ true → b ≡ true
both_true true b h = h
both_true false b h = cc

-- what stands past the end
end_of : (words : WordsView) (at : ℕ) (o : Option Token) (p : Option Symbol) → slice_get words.tokens at ≡ o → slice_get (symbols_of words) at ≡ p →
    found_piece o p ≡ piece.End → length words.tokens ≤ at
end_of words at o None e f h =
    elim (cases_lt at (length words.tokens)) [
      | inl i ↦ absurd (omega (arith, slice_missing (symbols_of words) at f, length-symbols_of words))
      | inr i ↦ i
    ]
end_of words at None (Some s) e f h = let i = slice_missing words.tokens at e in i
end_of words at (Some t) (Some s) e f h = absurd (never_end t s h)

pub past_end : (words : WordsView) (at : ℕ) → piece_at words at ≡ piece.End → length words.tokens ≤ at
unfolding piece_at
past_end words at h = end_of words at (slice_get words.tokens at) (slice_get (symbols_of words) at) refl refl h

-- what can stand after an expression
follows_cons : (s : Symbol) (ss : List Symbol) → Follows (s ∷ []) → Follows (s ∷ ss)
follows_cons (symbol.Operator op) ss h = absurd h
follows_cons symbol.Exponent ss h = absurd h
follows_cons s ss h = tt

pub follows_piece : (words : WordsView) (at : ℕ) (p : Piece) → piece_at words at ≡ p → Tells p → Follows (symbol_for p (text_at words at) ∷ []) → Follows (drop at (symbols_of words))
follows_piece words at p e h f =
    let P : List Symbol → Type 0 = λ ss. Follows ss in
    subst P (sym (symbols_from words at p e h)) (follows_cons (symbol_for p (text_at words at)) (drop (at + 1) (symbols_of words)) f)

pub follows_end : (words : WordsView) (at : ℕ) → piece_at words at ≡ piece.End → Follows (drop at (symbols_of words))
follows_end words at h =
    let P : List Symbol → Type 0 = λ ss. Follows ss in
    subst P (sym (drop_all at (symbols_of words) (omega (arith, past_end words at h, length-symbols_of words)))) tt

letter_follows : (b : Bool) → Follows (cond b symbol.Letter symbol.Other ∷ [])
letter_follows true = tt
letter_follows false = tt

pub follows_letter : (words : WordsView) (at b : ℕ) → piece_at words at ≡ piece.Letter b → Follows (drop at (symbols_of words))
follows_letter words at b h = follows_piece words at (piece.Letter b) h tt (letter_follows (b == 82))

-- names
pub keyword_piece : (words : WordsView) (at : ℕ) (word : List ℕ) → is_keyword words at word ≡ true → piece_at words at ≡ piece.Name
unfolding is_keyword
keyword_piece words at word h = named_piece (piece_at words at) (is_word (text_at words at) word) h

pub keyword_text : (words : WordsView) (at : ℕ) (word : List ℕ) → is_keyword words at word ≡ true → is_word (text_at words at) word ≡ true
unfolding is_keyword
keyword_text words at word h = both_true (is_name (piece_at words at)) (is_word (text_at words at) word) h

pub same_symbol : (a b : List ℕ) → str_to_ascii_lowercase a ≡ str_to_ascii_lowercase b → name_symbol a ≡ name_symbol b
unfolding name_symbol value_symbol
same_symbol a b h = rw h refl

pub follows_keyword : (words : WordsView) (at : ℕ) (word : List ℕ) → is_keyword words at word ≡ true → Follows (name_symbol word ∷ []) → Follows (drop at (symbols_of words))
follows_keyword words at word h f =
    let e = same_symbol (text_at words at) word (same_letters (text_at words at) word (keyword_text words at word h)) in
    let P : Symbol → Type 0 = λ s. Follows (s ∷ []) in
    follows_piece words at piece.Name (keyword_piece words at word h) tt (subst P (sym e) f)

-- what an expression begins with
abbrev pub Begins : Symbol → Type 0
Begins (symbol.Number z d) = Unit {0}
Begins (symbol.Truth b) = Unit {0}
Begins (symbol.Operator op) = Unit {0}
Begins symbol.Not = Unit {0}
Begins (symbol.Function f) = Unit {0}
Begins symbol.Letter = Unit {0}
Begins symbol.Open = Unit {0}
Begins symbol.Close = ⊥
Begins symbol.OpenBracket = ⊥
Begins symbol.CloseBracket = ⊥
Begins symbol.Exponent = ⊥
Begins symbol.Other = ⊥

first_is : (s u : Symbol) (ss us : List Symbol) → s ∷ ss ≡ u ∷ us → Begins s → Begins u
first_is s u ss us e h = let same : s ≡ u = cc in let P : Symbol → Type 0 = λ x. Begins x in subst P same h

pub begins : (x : Syntax) (rest : List Symbol) (s : Symbol) (ss : List Symbol) → spelling x ++ rest ≡ s ∷ ss → Begins s
begins (Constant z d) rest s ss e = first_is _ s _ ss e tt
begins (Truth b) rest s ss e = first_is _ s _ ss e tt
begins (Positive x) rest s ss e = first_is _ s _ ss e tt
begins (Negative x) rest s ss e = first_is _ s _ ss e tt
begins (Denied x) rest s ss e = first_is _ s _ ss e tt
begins (Named z) rest s ss e = first_is _ s _ ss e tt
begins (Indexing x) rest s ss e = first_is _ s _ ss e tt
begins (Called f x) rest s ss e = first_is _ s _ ss e tt
begins (Grouped x) rest s ss e = first_is _ s _ ss e tt
begins (Chained op a b) rest s ss e = begins a ((symbol.Operator op ∷ spelling b) ++ rest) s ss (sym (append_assoc (spelling a) (symbol.Operator op ∷ spelling b) rest) ∙ e)

spelled : (x : Syntax) → 0 < length (spelling x)
spelled (Constant z d) = omega arith
spelled (Truth b) = omega arith
spelled (Positive x) = omega arith
spelled (Negative x) = omega arith
spelled (Denied x) = omega arith
spelled (Named z) = omega arith
spelled (Indexing x) = omega arith
spelled (Called f x) = omega arith
spelled (Grouped x) = omega arith
spelled (Chained op a b) = omega (arith, spelled a, length-append (spelling a) (symbol.Operator op ∷ spelling b))

-- a part of a list
part_short : {X : Type 0} (xs : List X) (at end : ℕ) → 0 < length (slice_range xs at end) → at < end
part_short xs at end h =
    elim (cases_lt at end) [
      | inl i ↦ i
      | inr i ↦ let none : end - at ≡ 0 = omega arith in
          let e : slice_range xs at end ≡ [] = ap (λ n. take n (drop at xs)) none in
          absurd (omega (arith, h, ap length e))
    ]

part_rest : {X : Type 0} (xs : List X) (at end : ℕ) → at < end → drop at xs ≡ slice_range xs at end ++ drop end xs
part_rest xs at end h =
    let e : at + (end - at) ≡ end = omega arith in
    sym (take-append-drop (end - at) (drop at xs)) ∙ ap (λ ys. slice_range xs at end ++ ys) (drop-drop (end - at) at xs ∙ ap (λ n. drop n xs) e)

part_of : {X : Type 0} (xs ys : List X) (at end : ℕ) → at < end → end ≤ length xs → drop at xs ≡ ys ++ drop end xs → slice_range xs at end ≡ ys
part_of xs ys at end h i e =
    let n : length ys ≡ end - at = omega (arith, ap length e, length-append ys (drop end xs), length-drop at xs, length-drop end xs) in
    ap (λ zs. take (end - at) zs) e ∙ ap (λ k. take k (ys ++ drop end xs)) (sym n) ∙ take-append_seam ys (drop end xs)

-- an expression stands within the line, and begins as one does
pub expression_within : (words : WordsView) (at end : ℕ) (t : Tree) → IsExpressionText words at end t → (at < end) × (end ≤ length words.tokens)
expression_within words at end t h =
    (part_short (symbols_of words) at end (omega (arith, spelled h.0, ap length h.4)), h.3)

pub expression_rest : (words : WordsView) (at end : ℕ) (t : Tree) (h : IsExpressionText words at end t) → drop at (symbols_of words) ≡ spelling h.0 ++ drop end (symbols_of words)
expression_rest words at end t h =
    part_rest (symbols_of words) at end (expression_within words at end t h).0 ∙ ap (λ ss. ss ++ drop end (symbols_of words)) h.4

pub expression_begins : (words : WordsView) (at end : ℕ) (t : Tree) (p : Piece) → IsExpressionText words at end t → piece_at words at ≡ p → Tells p → Begins (symbol_for p (text_at words at))
expression_begins words at end t p h e tells =
    begins h.0 (drop end (symbols_of words)) _ (drop (at + 1) (symbols_of words)) (sym (expression_rest words at end t h) ∙ symbols_from words at p e tells)

-- what is read as an expression is one
placed_found : (all : ℕ) (r : Reading) (t : Tree) (end : ℕ) → reading_with_place all r ≡ Ok (t, end) → (left : List Symbol) × (r ≡ Ok (t, left)) × (end ≡ all - length left)
placed_found all (Ok p) t end h =
    let e : (p.0, all - length p.1) ≡ (t, end) = cc in
    let tree_is : p.0 ≡ t = ap (λ (q : Tree × ℕ). q.0) e in
    (p.1, ap (λ x. Ok (x, p.1)) tree_is, sym (ap (λ (q : Tree × ℕ). q.1) e))
placed_found all (Err code) t end h = cc

pub expression_found : (words : WordsView) (at end : ℕ) (t : Tree) → expression_at words at ≡ Ok (t, end) → IsExpressionText words at end t
unfolding expression_at expr_at
expression_found words at end t h =
    let ss = symbols_of words in
    let p = placed_found (length ss) (read all_limits (drop at ss)) t end h in
    let f = sound (drop at ss) t p.0 p.1 in
    let n : length (drop at ss) ≡ length (spelling f.0) + length p.0 = ap length f.4 ∙ length-append (spelling f.0) p.0 in
    let m = spelled f.0 in
    let d = length-drop at ss in
    let place : end ≡ at + length (spelling f.0) = omega (arith, n, m, d, p.2) in
    let left : drop end ss ≡ p.0 =
    ap (λ k. drop k ss) place ∙ sym (drop-drop (length (spelling f.0)) at ss) ∙ ap (drop (length (spelling f.0))) f.4 ∙ drop-append_seam (spelling f.0) p.0 in
    let within : end ≤ length ss = omega (arith, p.2) in
    (f.0, f.1, f.2, omega (arith, within, length-symbols_of words), part_of ss (spelling f.0) at end (omega (arith, place, m)) within (f.4 ∙ ap (λ ys. spelling f.0 ++ ys) (sym left)))

pub expression_only : (words : WordsView) (at end : ℕ) (t : Tree) → IsExpressionText words at end t → Follows (drop end (symbols_of words)) → expression_at words at ≡ Ok (t, end)
unfolding expression_at expr_at
expression_only words at end t h f =
    let ss = symbols_of words in
    let w = expression_within words at end t h in
    let e : read all_limits (drop at ss) ≡ Ok (tree h.0, drop end ss) =
    ap (read all_limits) (expression_rest words at end t h) ∙ complete all_limits h.0 (drop end ss) h.1 f in
    let place : length ss - length (drop end ss) ≡ end = omega (arith, length-drop end ss, w.1, length-symbols_of words) in
    ap (reading_with_place (length ss)) e ∙ ap (λ n. Ok (tree h.0, n)) place ∙ ap (λ x. Ok (x, end)) h.2

-- the same in a word block
in_words_found : (words : WordsView) (stop : ℕ) (r : Result (Tree × ℕ) ℕ) (p : Tree × ℕ) → in_words words stop r ≡ Ok p → r ≡ Ok p
in_words_found words stop (Ok q) p h = h
in_words_found words stop (Err code) p h = cc

pub value_found : (words : WordsView) (at end : ℕ) (t : Tree) → value_at words at ≡ Ok (t, end) → IsExpressionText words at end t
unfolding value_at
value_found words at end t h =
    expression_found words at end t (in_words_found words (stop_at (symbols_of words) at) (expression_at words at) (t, end) h)

pub value_only : (words : WordsView) (at end : ℕ) (t : Tree) → IsExpressionText words at end t → Follows (drop end (symbols_of words)) → value_at words at ≡ Ok (t, end)
unfolding value_at
value_only words at end t h f = ap (in_words words (stop_at (symbols_of words) at)) (expression_only words at end t h f)
