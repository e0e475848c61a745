-- A line with one token more.
use Rattle.std.proofs.Common.{◌≡◌, ℕ, zero, suc, ◌+◌, ◌-◌, ◌<◌, ◌≤◌, List, [], ◌∷◌, ◌++◌, length, take, drop, refl, ap, sym, ◌∙◌, inl, inr, Option, Some, None, Bool, true, false, cond, arith}
use Rattle.std.specs.Prelude.{slice_get, slice_range, ◌&&◌}
use Rattle.std.proofs.Math.Seq.{drop-append_seam, take-length}
use Rattle.std.proofs.lemmas.Bool.{cases_lt}
use Rattle.std.proofs.lemmas.List.{take-append-le, drop-append-le, length-append, length-drop}
use Rattle.block_scanner.specs.declared.Kind.{Kind}
use Rattle.block_scanner.specs.declared.Token.{Token}
use Rattle.block_scanner.specs.WordsView.{WordsView}
use Rattle.nc_expressions.specs.declared.symbols.Symbol.{Symbol}
use Rattle.nc_expressions.specs.declared.symbols.Symbol.TheVariants as symbol
use Rattle.nc_expressions.specs.Symbols.{symbol_of, symbols_after, symbols_of, touches_number, is_exponent, kind_symbol}
use Rattle.nc_expressions.proofs.Beginnings.{length-symbols_of}
use Rattle.nc_blocks.specs.Pieces.{found_piece, piece_of, piece_at, found_text, text_at}
use Rattle.nc_syntax.specs.Places.{BeginsAs}
use Rattle.nc_syntax.specs.Wanted.{Mark}

-- a token after the line
abbrev pub new_token : WordsView → Kind → List ℕ → Token
new_token words k text = record { kind = k; start = length words.line; end = length words.line + length text }

abbrev pub add : WordsView → Kind → List ℕ → WordsView
add words k text = record { line = words.line ++ text; tokens = words.tokens ++ new_token words k text ∷ [] }

-- the last token, or what stood before
abbrev pub last_of : Option Token → List Token → Option Token
last_of before [] = before
last_of before (t ∷ ts) = last_of (Some t) ts

-- the symbols of the tokens before stay
pub symbols_append : (line : List ℕ) (before : Option Token) (ts : List Token) (t : Token) →
    symbols_after line before (ts ++ t ∷ []) ≡ symbols_after line before ts ++ symbol_of line (last_of before ts) t ∷ []
symbols_append line before [] t = refl
symbols_append line before (x ∷ xs) t = ap (λ (ss : List Symbol). symbol_of line before x ∷ ss) (symbols_append line (Some x) xs t)

-- the tokens end within so many bytes
abbrev pub EndWithin : ℕ → List Token → Type 0
EndWithin n [] = Unit {0}
EndWithin n (t ∷ ts) = (t.end ≤ n) × EndWithin n ts

more_within : (n m : ℕ) (ts : List Token) (t : Token) → n ≤ m → t.end ≤ m → EndWithin n ts → EndWithin m (ts ++ t ∷ [])
more_within n m [] t l e w = (e, tt)
more_within n m (x ∷ xs) t l e w = (omega (arith, l, w.0), more_within n m xs t l e w.1)

pub add_within : (words : WordsView) (k : Kind) (text : List ℕ) → EndWithin (length words.line) words.tokens → EndWithin (length (add words k text).line) (add words k text).tokens
add_within words k text w =
    let long = length-append words.line text in
    more_within (length words.line) (length (words.line ++ text)) words.tokens (new_token words k text) (omega (arith, long)) (omega (arith, long)) w

-- a slice of a line that goes on
slice_kept : (xs ys : List ℕ) (a b : ℕ) → b ≤ length xs → slice_range (xs ++ ys) a b ≡ slice_range xs a b
slice_kept xs ys a b h =
    elim (cases_lt a b) [
      | inl l ↦
          let long = length-drop a xs in
          ap (take (b - a)) (drop-append-le a xs ys (omega (arith, l, h))) ∙ take-append-le (b - a) (drop a xs) ys (omega (arith, l, h, long))
      | inr l ↦
          let none : b - a ≡ 0 = omega (arith, l) in
          rw none refl
    ]

slice_new : (xs ys : List ℕ) → slice_range (xs ++ ys) (length xs) (length xs + length ys) ≡ ys
slice_new xs ys =
    let long : (length xs + length ys) - length xs ≡ length ys = omega arith in
    ap (take ((length xs + length ys) - length xs)) (drop-append_seam xs ys) ∙ ap (λ (n : ℕ). take n ys) long ∙ take-length ys

symbol_kept : (line more : List ℕ) (before : Option Token) (t : Token) → t.end ≤ length line → symbol_of (line ++ more) before t ≡ symbol_of line before t
unfolding symbol_of
symbol_kept line more before t h =
    ap (λ (text : List ℕ). cond (touches_number before t && is_exponent t.kind text) symbol.Exponent (kind_symbol t.kind text)) (slice_kept line more t.start t.end h)

symbols_kept : (line more : List ℕ) (before : Option Token) (ts : List Token) → EndWithin (length line) ts → symbols_after (line ++ more) before ts ≡ symbols_after line before ts
symbols_kept line more before [] w = refl
symbols_kept line more before (t ∷ ts) w =
    ap (λ (s : Symbol). s ∷ symbols_after (line ++ more) (Some t) ts) (symbol_kept line more before t w.0)
    ∙ ap (λ (ss : List Symbol). symbol_of line before t ∷ ss) (symbols_kept line more (Some t) ts w.1)

-- the symbol of the new token
abbrev new_symbol : WordsView → Kind → List ℕ → Symbol
new_symbol words k text = symbol_of (words.line ++ text) (last_of None words.tokens) (new_token words k text)

symbols_added : (words : WordsView) (k : Kind) (text : List ℕ) → EndWithin (length words.line) words.tokens → symbols_of (add words k text) ≡ symbols_of words ++ new_symbol words k text ∷ []
unfolding symbols_of
symbols_added words k text w =
    symbols_append (words.line ++ text) None words.tokens (new_token words k text)
    ∙ ap (λ (ss : List Symbol). ss ++ new_symbol words k text ∷ []) (symbols_kept words.line text None words.tokens w)

get_kept : {A : Type 0} (xs ys : List A) (k : ℕ) → k < length xs → slice_get xs k ≡ slice_get (xs ++ ys) k
get_kept [] ys k h = absurd (omega (arith, h))
get_kept (x ∷ xs) ys zero h = refl
get_kept (x ∷ xs) ys (suc k) h = get_kept xs ys k (omega (arith, h))

get_new : {A : Type 0} (xs : List A) (y : A) → slice_get (xs ++ y ∷ []) (length xs) ≡ Some y
get_new [] y = refl
get_new (x ∷ xs) y = get_new xs y

found_kept : (line more : List ℕ) (ts : List Token) (at : ℕ) → EndWithin (length line) ts → found_text line (slice_get ts at) ≡ found_text (line ++ more) (slice_get ts at)
found_kept line more [] at w = refl
found_kept line more (t ∷ ts) zero w = sym (slice_kept line more t.start t.end w.0)
found_kept line more (t ∷ ts) (suc at) w = found_kept line more ts at w.1

-- the tokens before stay
pub begins_added : (words : WordsView) (k : Kind) (text : List ℕ) → EndWithin (length words.line) words.tokens → BeginsAs words (length words.tokens) (add words k text)
unfolding piece_at text_at
begins_added words k text w at l =
    let other = add words k text in
    let tokens : slice_get words.tokens at ≡ slice_get other.tokens at = get_kept words.tokens (new_token words k text ∷ []) at l in
    let long = length-symbols_of words in
    let symbols : slice_get (symbols_of words) at ≡ slice_get (symbols_of other) at =
    get_kept (symbols_of words) (new_symbol words k text ∷ []) at (omega (arith, l, long))
    ∙ ap (λ (ss : List Symbol). slice_get ss at) (sym (symbols_added words k text w)) in (
      ap (λ (t : Option Token). found_piece t (slice_get (symbols_of words) at)) tokens ∙ ap (found_piece (slice_get other.tokens at)) symbols,
      found_kept words.line text words.tokens at w ∙ ap (found_text other.line) tokens,
      symbols,
    )

-- a token that shows a mark
pub record Fits (m : Mark) : Type 0 where
  pub which : Kind
  pub meaning : Symbol
  pub shown : m.symbol ≡ Some meaning
  pub plain : is_exponent which m.text ≡ false
  pub means : kind_symbol which m.text ≡ meaning
  pub stands : (from : ℕ) → piece_of (record { kind = which; start = from; end = from + length m.text }) meaning ≡ m.piece

plain_symbol : (b e : Bool) (s : Symbol) → e ≡ false → cond (b && e) symbol.Exponent s ≡ s
plain_symbol true e s h = rw h refl
plain_symbol false e s h = refl

new_means : (words : WordsView) (m : Mark) (f : Fits m) → new_symbol words f.which m.text ≡ f.meaning
unfolding symbol_of
new_means words m f =
    let t = new_token words f.which m.text in
    let touches = touches_number (last_of None words.tokens) t in
    ap (λ (text : List ℕ). cond (touches && is_exponent f.which text) symbol.Exponent (kind_symbol f.which text)) (slice_new words.line m.text)
    ∙ plain_symbol touches (is_exponent f.which m.text) (kind_symbol f.which m.text) f.plain
    ∙ f.means

-- the new token shows its mark
pub added : (words : WordsView) (m : Mark) (f : Fits m) → EndWithin (length words.line) words.tokens →
    (piece_at (add words f.which m.text) (length words.tokens) ≡ m.piece)
    × (text_at (add words f.which m.text) (length words.tokens) ≡ m.text)
    × (slice_get (symbols_of (add words f.which m.text)) (length words.tokens) ≡ m.symbol)
unfolding piece_at text_at
added words m f w =
    let other = add words f.which m.text in
    let t = new_token words f.which m.text in
    let at = length words.tokens in
    let tokens : slice_get other.tokens at ≡ Some t = get_new words.tokens t in
    let symbols : slice_get (symbols_of other) at ≡ Some f.meaning =
    ap (λ (ss : List Symbol). slice_get ss at) (symbols_added words f.which m.text w)
    ∙ ap (slice_get (symbols_of words ++ new_symbol words f.which m.text ∷ [])) (sym (length-symbols_of words))
    ∙ get_new (symbols_of words) (new_symbol words f.which m.text)
    ∙ ap (λ (s : Symbol). Some s) (new_means words m f) in (
      ap (λ (o : Option Token). found_piece o (slice_get (symbols_of other) at)) tokens ∙ ap (found_piece (Some t)) symbols ∙ f.stands (length words.line),
      ap (found_text other.line) tokens ∙ slice_new words.line m.text,
      symbols ∙ sym f.shown,
    )
