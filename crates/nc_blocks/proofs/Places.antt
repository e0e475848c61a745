-- What stands at a place of a line.
use Rattle.std.proofs.Common.{◌≡◌, ℕ, ◌+◌, ◌<◌, ◌≤◌, ◌==◌, ◌&&◌, not, if◌then◌else◌, Bool, true, false, inl, inr, List, length, get_or, refl, sym, ◌∙◌, Option, Some, None, arith}
use Rattle.std.specs.Prelude.{ℤ, nat_lt, slice_get}
use Rattle.std.specs.Int.RustNames.{unsigned_abs}
use Rattle.std.proofs.lemmas.Bool.{false≢true, cases_lt}
use Rattle.std.proofs.lemmas.Bool.Decides.{nat_tests}
use Rattle.micro_units.specs.NumberText.{number_of}
use Rattle.micro_units.specs.declared.limits.TheConstants.{NUMBER_LIMIT}
use Rattle.block_scanner.specs.declared.Kind.{Kind}
use Rattle.block_scanner.specs.declared.Kind.TheVariants as kind
use Rattle.block_scanner.specs.declared.Sign.{Sign}
use Rattle.block_scanner.specs.declared.Sign.TheVariants as sign
use Rattle.std.proofs.lemmas.Option.{slice_get_read, slice_get_past}
use Rattle.std.proofs.lemmas.List.{get_or_default}
use Rattle.nc_expressions.specs.declared.limits.TheConstants.{NAME_LIMIT}
use Rattle.block_scanner.specs.declared.Token.{Token}
use Rattle.block_scanner.specs.WordsView.{WordsView}
use Rattle.block_scanner.specs.Texts.{text_of}
use Rattle.nc_expressions.specs.declared.symbols.Symbol.{Symbol}
use Rattle.nc_expressions.specs.declared.symbols.Symbol.TheVariants as symbol
use Rattle.nc_expressions.specs.Symbols.{sign_symbol, is_digits, number_symbol, kind_symbol, is_exponent, touches_number, symbol_of, symbols_of, token_before}
use Rattle.nc_expressions.proofs.Beginnings.{symbol_read, within_line, length-symbols_of}
use Rattle.nc_blocks.specs.declared.pieces.Piece.{Piece}
use Rattle.nc_blocks.specs.declared.pieces.Piece.TheVariants as piece
use Rattle.nc_blocks.specs.Pieces.{sign_piece, number_piece, plain_piece, piece_of, is_read_by_kind, is_end, piece_at, text_at}

token_read : (words : WordsView) (at : ℕ) (t : Token) → at < length words.tokens → t ≡ get_or words.tokens at t → slice_get words.tokens at ≡ Some t
token_read words at t h is = slice_get_read words.tokens (length words.tokens) at t refl h is

pub piece_read : (words : WordsView) (at : ℕ) (t : Token) (s : Symbol) (p : Piece) → at < length words.tokens → t ≡ get_or words.tokens at t →
    s ≡ get_or (symbols_of words) at s → p ≡ piece_of t s → p ≡ piece_at words at
unfolding piece_at
piece_read words at t s p h is is' e =
    let a = token_read words at t h is in
    let b = within_line words at s h is' in
    rw (a, b) e

pub piece_past : (words : WordsView) (at : ℕ) → length words.tokens ≤ at → piece.End ≡ piece_at words at
unfolding piece_at
piece_past words at h = rw (slice_get_past words.tokens at h) refl

-- the symbols that are no exponent
is_no_exponent : Symbol → Bool
is_no_exponent symbol.Exponent = false
is_no_exponent one = true

sign_no_exponent : (s : Sign) → is_no_exponent (sign_symbol s) ≡ true
unfolding sign_symbol is_no_exponent
sign_no_exponent sign.Plus = refl
sign_no_exponent sign.Minus = refl
sign_no_exponent sign.Times = refl
sign_no_exponent sign.Slash = refl
sign_no_exponent sign.Assign = refl
sign_no_exponent sign.Equal = refl
sign_no_exponent sign.NotEqual = refl
sign_no_exponent sign.Less = refl
sign_no_exponent sign.Greater = refl
sign_no_exponent sign.LessEqual = refl
sign_no_exponent sign.GreaterEqual = refl
sign_no_exponent sign.OpenParenthesis = refl
sign_no_exponent sign.CloseParenthesis = refl
sign_no_exponent sign.OpenBracket = refl
sign_no_exponent sign.CloseBracket = refl
sign_no_exponent sign.Comma = refl
sign_no_exponent sign.Colon = refl
sign_no_exponent sign.Dollar = refl

plain_of : (t : Token) (one : Symbol) → is_no_exponent one ≡ true → piece_of t one ≡ plain_piece t.kind t.start t.end one
unfolding piece_of is_no_exponent
plain_of t symbol.Exponent h = absurd (false≢true h)
plain_of t (symbol.Number z digits) h = refl
plain_of t (symbol.Truth holds) h = refl
plain_of t (symbol.Operator op) h = refl
plain_of t symbol.Not h = refl
plain_of t (symbol.Function f) h = refl
plain_of t symbol.Letter h = refl
plain_of t symbol.Open h = refl
plain_of t symbol.Close h = refl
plain_of t symbol.OpenBracket h = refl
plain_of t symbol.CloseBracket h = refl
plain_of t symbol.Other h = refl

-- what a token of each kind means that is no exponent by itself
no_exponent_of : (line : List ℕ) (before : Option Token) (t : Token) → is_exponent t.kind (text_of line t) ≡ false
    → is_no_exponent (kind_symbol t.kind (text_of line t)) ≡ true → (symbol_of line before t ≡ kind_symbol t.kind (text_of line t))
unfolding symbol_of
no_exponent_of line before t none plain = rw none (by (touches_number before t))
  where
    by : (b : Bool) → (if b && false then symbol.Exponent else kind_symbol t.kind (text_of line t)) ≡ kind_symbol t.kind (text_of line t)
    by true = refl
    by false = refl

kind_alone : (k : Kind) (text : List ℕ) → is_read_by_kind k ≡ true → is_exponent k text ≡ false
unfolding is_exponent
kind_alone (kind.Letter b) text h = grind (arith, nat_tests)
kind_alone kind.Name text h = absurd (false≢true h)
kind_alone kind.Number text h = absurd (false≢true h)
kind_alone kind.Text text h = refl
kind_alone (kind.Sign s) text h = refl

kind_plain : (k : Kind) (text : List ℕ) → is_read_by_kind k ≡ true → is_no_exponent (kind_symbol k text) ≡ true
unfolding kind_symbol is_no_exponent
kind_plain (kind.Letter b) text h = by (b == 82)
  where
    by : (c : Bool) → is_no_exponent (if c then symbol.Letter else symbol.Other) ≡ true
    by true = refl
    by false = refl
kind_plain kind.Name text h = absurd (false≢true h)
kind_plain kind.Number text h = absurd (false≢true h)
kind_plain kind.Text text h = refl
kind_plain (kind.Sign s) text h = sign_no_exponent s

kind_any : (k : Kind) (from to : ℕ) (one : Symbol) → is_read_by_kind k ≡ true → plain_piece k from to symbol.Other ≡ plain_piece k from to one
unfolding plain_piece
kind_any (kind.Letter b) from to one h = refl
kind_any kind.Name from to one h = absurd (false≢true h)
kind_any kind.Number from to one h = absurd (false≢true h)
kind_any kind.Text from to one h = refl
kind_any (kind.Sign s) from to one h = refl

-- a token that its kind alone tells
pub kind_read : (words : WordsView) (at : ℕ) (t : Token) (p : Piece) → at < length words.tokens → t ≡ get_or words.tokens at t →
    is_read_by_kind t.kind ≡ true → p ≡ plain_piece t.kind t.start t.end symbol.Other → p ≡ piece_at words at
kind_read words at t p h is kind e =
    let text = text_of words.line t in
    let plain = kind_plain t.kind text kind in
    let one = no_exponent_of words.line (token_before None words.tokens at) t (kind_alone t.kind text kind) plain in
    piece_read words at t (kind_symbol t.kind text) p h is
    (symbol_read words at t (kind_symbol t.kind text) h is (sym one))
    (e ∙ kind_any t.kind t.start t.end (kind_symbol t.kind text) kind ∙ sym (plain_of t (kind_symbol t.kind text) plain))

number_plain : (one : Option ℤ) (digits : Bool) → is_no_exponent (number_symbol one digits) ≡ true
unfolding number_symbol is_no_exponent
number_plain None digits = refl
number_plain (Some z) digits = by (nat_lt (unsigned_abs z) NUMBER_LIMIT)
  where
    by : (c : Bool) → is_no_exponent (if c then symbol.Number z digits else symbol.Other) ≡ true
    by true = refl
    by false = refl

-- a number
pub number_read : (words : WordsView) (at : ℕ) (t : Token) (p : Piece) → at < length words.tokens → t ≡ get_or words.tokens at t →
    t.kind ≡ kind.Number → ((digits : Bool) → p ≡ number_piece (number_symbol (number_of (text_of words.line t)) digits)) → p ≡ piece_at words at
unfolding is_exponent kind_symbol plain_piece
number_read words at t p h is kind e =
    let text = text_of words.line t in
    let digits = is_digits text in
    let one = number_symbol (number_of text) digits in
    let read : kind_symbol t.kind text ≡ one = rw kind refl in
    let plain : is_no_exponent (kind_symbol t.kind text) ≡ true = rw read (number_plain (number_of text) digits) in
    let none : is_exponent t.kind text ≡ false = rw kind refl in
    piece_read words at t (kind_symbol t.kind text) p h is
    (symbol_read words at t (kind_symbol t.kind text) h is (sym (no_exponent_of words.line (token_before None words.tokens at) t none plain)))
    (e digits ∙ sym (plain_of t (kind_symbol t.kind text) plain ∙ rw (read, kind) refl))

pub ruleset tokens = (piece_read, kind_read, number_read)

-- no token is the end of the line
sign_no_end : (s : Sign) → is_end (sign_piece s) ≡ false
unfolding sign_piece
sign_no_end sign.Plus = refl
sign_no_end sign.Minus = refl
sign_no_end sign.Times = refl
sign_no_end sign.Slash = refl
sign_no_end sign.Assign = refl
sign_no_end sign.Equal = refl
sign_no_end sign.NotEqual = refl
sign_no_end sign.Less = refl
sign_no_end sign.Greater = refl
sign_no_end sign.LessEqual = refl
sign_no_end sign.GreaterEqual = refl
sign_no_end sign.OpenParenthesis = refl
sign_no_end sign.CloseParenthesis = refl
sign_no_end sign.OpenBracket = refl
sign_no_end sign.CloseBracket = refl
sign_no_end sign.Comma = refl
sign_no_end sign.Colon = refl
sign_no_end sign.Dollar = refl

number_no_end : (one : Symbol) → is_end (number_piece one) ≡ false
unfolding number_piece
number_no_end (symbol.Number z digits) = refl
number_no_end (symbol.Truth holds) = refl
number_no_end (symbol.Operator op) = refl
number_no_end symbol.Not = refl
number_no_end (symbol.Function f) = refl
number_no_end symbol.Letter = refl
number_no_end symbol.Open = refl
number_no_end symbol.Close = refl
number_no_end symbol.OpenBracket = refl
number_no_end symbol.CloseBracket = refl
number_no_end symbol.Other = refl
number_no_end symbol.Exponent = refl

kind_no_end : (k : Kind) (from to : ℕ) (one : Symbol) → is_end (plain_piece k from to one) ≡ false
unfolding plain_piece
kind_no_end (kind.Letter b) from to one = refl
kind_no_end kind.Name from to one = by (nat_lt (from + NAME_LIMIT) to)
  where
    by : (c : Bool) → is_end (if c then piece.Broken else piece.Name) ≡ false
    by true = refl
    by false = refl
kind_no_end kind.Number from to one = number_no_end one
kind_no_end kind.Text from to one = refl
kind_no_end (kind.Sign s) from to one = sign_no_end s

no_end : (t : Token) (one : Symbol) → is_end (piece_of t one) ≡ false
unfolding piece_of
no_end t symbol.Exponent = refl
no_end t (symbol.Number z digits) = kind_no_end t.kind t.start t.end (symbol.Number z digits)
no_end t (symbol.Truth holds) = kind_no_end t.kind t.start t.end (symbol.Truth holds)
no_end t (symbol.Operator op) = kind_no_end t.kind t.start t.end (symbol.Operator op)
no_end t symbol.Not = kind_no_end t.kind t.start t.end symbol.Not
no_end t (symbol.Function f) = kind_no_end t.kind t.start t.end (symbol.Function f)
no_end t symbol.Letter = kind_no_end t.kind t.start t.end symbol.Letter
no_end t symbol.Open = kind_no_end t.kind t.start t.end symbol.Open
no_end t symbol.Close = kind_no_end t.kind t.start t.end symbol.Close
no_end t symbol.OpenBracket = kind_no_end t.kind t.start t.end symbol.OpenBracket
no_end t symbol.CloseBracket = kind_no_end t.kind t.start t.end symbol.CloseBracket
no_end t symbol.Other = kind_no_end t.kind t.start t.end symbol.Other

within_no_end : (words : WordsView) (at : ℕ) → at < length words.tokens → is_end (piece_at words at) ≡ false
unfolding piece_at
within_no_end words at h =
    let t = get_or words.tokens at first in
    let s = get_or (symbols_of words) at symbol.Other in
    let within : at < length (symbols_of words) = omega (arith, length-symbols_of words) in
    rw (
      token_read words at t h (get_or_default words.tokens at first t h),
      within_line words at s h (get_or_default (symbols_of words) at symbol.Other s within),
    ) (no_end t s)
  where
    first : Token
    first = record { kind = kind.Name; start = 0; end = 0 }

pub more_read : (words : WordsView) (at : ℕ) → nat_lt at (length words.tokens) ≡ not (is_end (piece_at words at))
more_read words at = elim (cases_lt at (length words.tokens)) [
  | inl h ↦ rw (within_no_end words at h) (grind (arith, nat_tests))
  | inr h ↦ rw (sym (piece_past words at h)) (grind (arith, nat_tests))
]

pub text_read : (words : WordsView) (at : ℕ) (t : Token) (text : List ℕ) → at < length words.tokens → t ≡ get_or words.tokens at t →
    text ≡ text_of words.line t → text ≡ text_at words at
unfolding text_at
text_read words at t text h is e = rw (token_read words at t h is) e
