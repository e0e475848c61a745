-- Messages: what is read is spelled so, and what is spelled so is read.
use Rattle.std.proofs.Common.{◌≡◌, ℕ, zero, suc, ◌+◌, ◌-◌, ◌<◌, ◌≤◌, List, [], ◌∷◌, length, get_or, refl, ap, sym, ◌∙◌, subst, inl, inr, Option, Some, None, Ok, Err, Bool, true, false, cond, arith}
use Rattle.std.specs.Prelude.{◌⊎◌, ◌&&◌, nat_lt, slice_get, reverse, position, codes}
use Rattle.std.proofs.lemmas.Bool.{cases_lt, lt-ltb}
use Rattle.std.proofs.lemmas.List.{get_or-reverse, length-reverse}
use Rattle.std.proofs.lemmas.List.Quantifiers.{position-Some}
use Rattle.std.proofs.lemmas.Option.{slice_get-get_or, get_or_from_slice_get}
use Rattle.block_scanner.specs.declared.Kind.{Kind}
use Rattle.block_scanner.specs.declared.Kind.TheVariants as kind
use Rattle.block_scanner.specs.declared.Sign.{Sign}
use Rattle.block_scanner.specs.declared.Sign.TheVariants as sign
use Rattle.block_scanner.specs.declared.Token.{Token}
use Rattle.block_scanner.specs.WordsView.{WordsView}
use Rattle.nc_expressions.specs.declared.symbols.Symbol.{Symbol}
use Rattle.nc_expressions.specs.declared.symbols.Symbol.TheVariants as symbol
use Rattle.nc_expressions.specs.Symbols.{symbols_of, symbol_of, touches_number, is_exponent, kind_symbol, sign_symbol}
use Rattle.nc_expressions.specs.Tree.{Tree}
use Rattle.nc_expressions.specs.Value.{◌>>=◌}
use Rattle.nc_blocks.specs.declared.pieces.Piece.{Piece}
use Rattle.nc_blocks.specs.declared.pieces.Piece.TheVariants as piece
use Rattle.nc_blocks.specs.Pieces.{sign_piece, number_piece, plain_piece, piece_of, found_piece, piece_at, is_text}
use Rattle.nc_blocks.specs.Statement.{Statement, Message}
use Rattle.nc_forms.specs.LineEnds.{statement_alone}
use Rattle.nc_forms.specs.Parentheses.{is_close_kind, is_open}
use Rattle.nc_forms.specs.Coordination.{after_text, msg_form, enclosed_at, setms_form, after_last, last_close, is_broken, has_broken, workpiece_form}
use Rattle.nc_forms.specs.Standing.{IsKeyword, IsExpressionText, IsEnclosed}
use Rattle.nc_forms.specs.SpelledForms.{IsMsg, IsSetms, IsWorkpiece}
use Rattle.nc_forms.proofs.Standings.{symbol_there, piece_within, past_end, follows_piece, expression_found, expression_only}
use Rattle.nc_forms.proofs.Marked.{bound, one_of, refused, open_found, open_only, close_found, close_only}
use Rattle.nc_forms.proofs.PieceLaws.{text_is, or_parts, or_both, false_of}
use Rattle.nc_forms.proofs.LineEnds.{at_line_end, alone_found, alone_only, alone_form_found}
use Rattle.nc_forms.proofs.CoordinationLaws.{close_last}

-- MSG
text_cases : (words : WordsView) (at close : ℕ) (b : Bool) → is_text (piece_at words (at + 2)) ≡ b → close ≡ cond b (at + 2 + 1) (at + 2) →
    (close ≡ at + 2) ⊎ ((piece_at words (at + 2) ≡ piece.Text) × (close ≡ at + 3))
text_cases words at close true e h = inr (text_is (piece_at words (at + 2)) e, omega (arith, h))
text_cases words at close false e h = inl h

pub msg_form_found : (words : WordsView) (at : ℕ) (s : Statement) → IsKeyword words at (codes "MSG") → msg_form words (at + 1) ≡ Ok s → (s ≡ Message) × IsMsg words at (length words.tokens)
unfolding msg_form
msg_form_found words at s k h =
    let a = bound _ _ _ h in
    let b = bound _ _ _ a.2 in
    let o = open_found words (at + 1) 22 a.0 a.1 in
    let c = close_found words (after_text words a.0) 22 b.0 b.1 in
    let e = alone_found words b.0 Message s b.2 in
    let place : a.0 ≡ at + 2 = omega (arith, o.1) in
    let Q = λ (n : ℕ). piece_at words (after_text words n) ≡ piece.Close in
    let R = λ (n : ℕ). piece_at words n ≡ piece.End in
    let close = after_text words (at + 2) in
    let shut : piece_at words close ≡ piece.Close = subst Q place c.0 in
    let last : piece_at words (close + 1) ≡ piece.End = subst R (c.1 ∙ ap (λ (n : ℕ). after_text words n + 1) place) e.0 in
    (sym e.1, (close, k, o.0, text_cases words at close (is_text (piece_at words (at + 2))) refl refl, shut, close_last words close shut last))

msg_read : (words : WordsView) (at close : ℕ) → piece_at words (at + 1) ≡ piece.Open → after_text words (at + 1 + 1) ≡ close → piece_at words close ≡ piece.Close →
    length words.tokens ≡ close + 1 → msg_form words (at + 1) ≡ Ok Message
unfolding msg_form
msg_read words at close o t c e =
    let Q = λ (n : ℕ). piece_at words n ≡ piece.Close in
    rw (open_only words (at + 1) 22 o, close_only words (after_text words (at + 1 + 1)) 22 (subst Q (sym t) c), t) (alone_only words (close + 1) Message (at_line_end words (close + 1) (sym e)))

no_text_read : (words : WordsView) (at close : ℕ) → close ≡ at + 2 → piece_at words close ≡ piece.Close → after_text words (at + 1 + 1) ≡ close
no_text_read words at close h c =
    let place : close ≡ at + 1 + 1 = omega (arith, h) in
    let Q = λ (n : ℕ). piece_at words n ≡ piece.Close in
    rw (subst Q place c) (sym place)

text_read : (words : WordsView) (at close : ℕ) → piece_at words (at + 2) ≡ piece.Text → close ≡ at + 3 → after_text words (at + 1 + 1) ≡ close
text_read words at close t h =
    let place : at + 2 ≡ at + 1 + 1 = omega arith in
    let Q = λ (n : ℕ). piece_at words n ≡ piece.Text in
    rw (subst Q place t) (omega (arith, h))

pub msg_form_only : (words : WordsView) (at : ℕ) → IsMsg words at (length words.tokens) → msg_form words (at + 1) ≡ Ok Message
unfolding msg_form
msg_form_only words at h =
    elim h.3 [
      | inl a ↦ msg_read words at h.0 h.2 (no_text_read words at h.0 a h.4) h.4 h.5
      | inr a ↦ msg_read words at h.0 h.2 (text_read words at h.0 a.0 a.1) h.4 h.5
    ]

-- SETMS
enclosed_found : (words : WordsView) (at end : ℕ) → enclosed_at words at ≡ Ok end → (t : Tree) × IsEnclosed words at end t
unfolding enclosed_at
enclosed_found words at end h =
    let a = bound _ _ _ h in
    let b = bound _ _ _ a.2 in
    let o = open_found words at 22 a.0 a.1 in
    let c = close_found words b.0.1 22 end b.2 in
    let P = λ (n : ℕ). IsExpressionText words n b.0.1 b.0.0 in
    (b.0.0, (b.0.1, o.0, subst P o.1 (expression_found words a.0 b.0.1 b.0.0 b.1), c.0, c.1))

enclosed_only : (words : WordsView) (at end : ℕ) (t : Tree) → IsEnclosed words at end t → enclosed_at words at ≡ Ok end
unfolding enclosed_at
enclosed_only words at end t h =
    rw (open_only words at 22 h.1, expression_only words (at + 1) h.0 t h.2 (follows_piece words h.0 piece.Close h.3 tt tt), close_only words h.0 22 h.3, h.4) refl

pub setms_form_found : (words : WordsView) (at : ℕ) (s : Statement) → IsKeyword words at (codes "SETMS") → setms_form words (at + 1) ≡ Ok s → (s ≡ Message) × IsSetms words at (length words.tokens)
unfolding setms_form
setms_form_found words at s k h =
    one_of (is_open (piece_at words (at + 1))) (◌>>=◌ {B = Statement} (enclosed_at words (at + 1)) (λ end. statement_alone words end Message)) (statement_alone words (at + 1) Message) s h
    (λ o e. let a = bound (enclosed_at words (at + 1)) (λ (n : ℕ). statement_alone words n Message) s e in
    let b = alone_found words a.0 Message s a.2 in
    let x = enclosed_found words (at + 1) a.0 a.1 in
    let Q = λ (n : ℕ). piece_at words n ≡ piece.End in
    let last = close_last words x.1.0 x.1.3 (subst Q x.1.4 b.0) in
    let R = λ (n : ℕ). IsEnclosed words (at + 1) n x.0 in
    (sym b.1, (k, inr (x.0, subst R (x.1.4 ∙ sym last) x.1))))
    (λ o e. let a = alone_form_found words at (codes "SETMS") Message s k e in (sym a.1, (k, inl a.0.1)))

pub setms_form_only : (words : WordsView) (at : ℕ) → IsSetms words at (length words.tokens) → setms_form words (at + 1) ≡ Ok Message
unfolding setms_form
setms_form_only words at h =
    elim h.1 [
      | inl a ↦ let e = at_line_end words (at + 1) (sym a) in rw e (alone_only words (at + 1) Message e)
      | inr a ↦ let all = length words.tokens in
          rw (a.1.1, enclosed_only words (at + 1) all a.0 a.1) (alone_only words all Message (at_line_end words all refl))
    ]

-- the kind of a `)`
kind_is : (k : Kind) → is_close_kind k ≡ true → k ≡ kind.Sign sign.CloseParenthesis
kind_is (kind.Sign sign.CloseParenthesis) h = refl
kind_is k h = cc

no_exponent_close : (b : Bool) → cond (b && false) symbol.Exponent symbol.Close ≡ symbol.Close
no_exponent_close true = refl
no_exponent_close false = refl

close_sign : (line : List ℕ) (last : Option Token) (t : Token) → t.kind ≡ kind.Sign sign.CloseParenthesis → piece_of t (symbol_of line last t) ≡ piece.Close
unfolding piece_of symbol_of is_exponent kind_symbol sign_symbol plain_piece sign_piece
close_sign line last t h =
    let u : Token = record { kind = kind.Sign sign.CloseParenthesis; start = t.start; end = t.end } in
    rw h (ap (λ (s : Symbol). piece_of u s) (no_exponent_close (touches_number last u)))

pub close_stands : (words : WordsView) (i : ℕ) (t : Token) → slice_get words.tokens i ≡ Some t → is_close_kind t.kind ≡ true → piece_at words i ≡ piece.Close
unfolding piece_at symbols_of
close_stands words i t e h =
    let s = symbol_there words.line None words.tokens i t e in
    rw (e, s.1) (close_sign words.line s.0 t (kind_is t.kind h))

sign_closes : (s : Sign) → sign_piece s ≡ piece.Close → is_close_kind (kind.Sign s) ≡ true
unfolding sign_piece
sign_closes sign.Plus h = cc
sign_closes sign.Minus h = cc
sign_closes sign.Times h = cc
sign_closes sign.Slash h = cc
sign_closes sign.Assign h = cc
sign_closes sign.Equal h = cc
sign_closes sign.NotEqual h = cc
sign_closes sign.Less h = cc
sign_closes sign.Greater h = cc
sign_closes sign.LessEqual h = cc
sign_closes sign.GreaterEqual h = cc
sign_closes sign.OpenParenthesis h = cc
sign_closes sign.CloseParenthesis h = refl
sign_closes sign.OpenBracket h = cc
sign_closes sign.CloseBracket h = cc
sign_closes sign.Comma h = cc
sign_closes sign.Colon h = cc
sign_closes sign.Dollar h = cc

name_no_close : {C : Type 0} (b : Bool) → cond b piece.Broken piece.Name ≡ piece.Close → C
name_no_close true h = cc
name_no_close false h = cc

number_no_close : {C : Type 0} (s : Symbol) → number_piece s ≡ piece.Close → C
unfolding number_piece
number_no_close (symbol.Number z d) h = cc
number_no_close s h = cc

kind_closes : (k : Kind) (from to : ℕ) (s : Symbol) → plain_piece k from to s ≡ piece.Close → is_close_kind k ≡ true
unfolding plain_piece
kind_closes (kind.Letter b) from to s h = cc
kind_closes kind.Name from to s h = name_no_close (nat_lt (from + 32) to) h
kind_closes kind.Number from to s h = number_no_close s h
kind_closes kind.Text from to s h = cc
kind_closes (kind.Sign g) from to s h = sign_closes g h

pub piece_closes : (t : Token) (s : Symbol) → piece_of t s ≡ piece.Close → is_close_kind t.kind ≡ true
unfolding piece_of
piece_closes t symbol.Exponent h = cc
piece_closes t s h = kind_closes t.kind t.start t.end s h

token_closes : (o : Option Token) (p : Option Symbol) → found_piece o p ≡ piece.Close → (t : Token) × (o ≡ Some t) × (is_close_kind t.kind ≡ true)
token_closes None p h = cc
token_closes (Some t) None h = cc
token_closes (Some t) (Some s) h = (t, refl, piece_closes t s h)

pub close_token : (words : WordsView) (i : ℕ) → piece_at words i ≡ piece.Close → (t : Token) × (slice_get words.tokens i ≡ Some t) × (is_close_kind t.kind ≡ true)
unfolding piece_at
close_token words i h = token_closes (slice_get words.tokens i) (slice_get (symbols_of words) i) h

-- the last token of a line
abbrev closes : Token → Bool
closes t = is_close_kind t.kind

after_found : (all end : ℕ) (o : Option ℕ) → after_last all o ≡ Ok end → (back : ℕ) × (o ≡ Some back) × (end ≡ all - back)
after_found all end (Some back) h = let e : all - back ≡ end = cc in (back, refl, sym e)
after_found all end None h = cc

last_found : (tokens : List Token) (end : ℕ) → 0 < length tokens → last_close tokens ≡ Ok end → length tokens ≤ end →
    (t : Token) × (i : ℕ) × (slice_get tokens i ≡ Some t) × (closes t ≡ true) × (i + 1 ≡ length tokens) × (end ≡ i + 1)
unfolding last_close
last_found tokens end some h all =
    let d : Token = record { kind = kind.Name; start = 0; end = 0 } in
    let b = after_found (length tokens) end (position closes (reverse tokens)) h in
    let p = position-Some closes (reverse tokens) b.0 d b.1 in
    let none : b.0 ≡ 0 = omega (arith, b.2, all, some) in
    let i = length tokens - 1 - b.0 in
    let within : b.0 < length tokens = omega (arith, none, some) in
    let place : i + 1 ≡ length tokens = omega (arith, none, some) in
    let t = get_or tokens i d in
    let same = get_or-reverse tokens b.0 d within in
    (t, i, slice_get-get_or tokens i d (omega (arith, place)), ap closes (sym same) ∙ p.1, place, omega (arith, b.2, none, place))

first_position : (xs : List Token) (d : Token) → 0 < length xs → closes (get_or xs 0 d) ≡ true → position closes xs ≡ Some 0
first_position [] d some h = absurd (omega (arith, some))
first_position (x ∷ xs) d some h = rw (h, lt-ltb 0 (suc (length xs)) (omega arith)) refl

last_only : (tokens : List Token) (i : ℕ) (t : Token) → slice_get tokens i ≡ Some t → closes t ≡ true → i + 1 ≡ length tokens → last_close tokens ≡ Ok (length tokens)
unfolding last_close
last_only tokens i t e h place =
    let zero_first : 0 < length tokens = omega (arith, place) in
    let index : length tokens - 1 - 0 ≡ i = omega (arith, place) in
    let same : get_or (reverse tokens) 0 t ≡ t = get_or-reverse tokens 0 t zero_first ∙ ap (λ n. get_or tokens n t) index ∙ get_or_from_slice_get tokens i t t e in
    let first = first_position (reverse tokens) t (omega (arith, length-reverse tokens, zero_first)) (ap closes same ∙ h) in
    let all : length tokens - 0 ≡ length tokens = omega arith in
    ap (after_last (length tokens)) first ∙ ap (λ n. Ok n) all

-- what breaks no form
broken_is : (p : Piece) → is_broken p ≡ true → p ≡ piece.Broken
broken_is piece.Broken h = refl
broken_is p h = cc

broken_found : (words : WordsView) (n at : ℕ) → has_broken words at n ≡ false → (place : ℕ) → at ≤ place → place < at + n → piece_at words place ≡ piece.Broken → ⊥
unfolding has_broken
broken_found words zero at h place low high e = omega (arith, low, high)
broken_found words (suc n) at h place low high e =
    let p = or_parts (is_broken (piece_at words at)) (has_broken words (at + 1) n) h in
    elim (cases_lt at place) [
      | inl i ↦ broken_found words n (at + 1) p.1 place (omega (arith, i)) (omega (arith, high)) e
      | inr i ↦ let same : place ≡ at = omega (arith, i, low) in
          let no : true ≡ false = sym (ap is_broken e) ∙ ap (λ k. is_broken (piece_at words k)) same ∙ p.0 in cc
    ]

broken_only : (words : WordsView) (n at : ℕ) → ((place : ℕ) → at ≤ place → place < at + n → piece_at words place ≡ piece.Broken → ⊥) → has_broken words at n ≡ false
unfolding has_broken
broken_only words zero at f = refl
broken_only words (suc n) at f =
    or_both (is_broken (piece_at words at)) (has_broken words (at + 1) n)
    (false_of (is_broken (piece_at words at)) (λ k. f at (omega arith) (omega arith) (broken_is (piece_at words at) k)))
    (broken_only words n (at + 1) (λ place low high e. f place (omega (arith, low)) (omega (arith, high)) e))

between : (words : WordsView) (at i : ℕ) → piece_at words (at + 1) ≡ piece.Open → piece_at words i ≡ piece.Close → at + 1 ≤ i → at + 1 < i
between words at i o c w =
    elim (cases_lt (at + 1) i) [
      | inl h ↦ h
      | inr h ↦ let same : i ≡ at + 1 = omega (arith, h, w) in
          let no : piece.Close ≡ piece.Open = sym c ∙ ap (piece_at words) same ∙ o in cc
    ]

unbroken : (words : WordsView) (at close place : ℕ) → piece_at words close ≡ piece.Close → ((place : ℕ) → at + 1 < place → place < close → piece_at words place ≡ piece.Broken → ⊥) →
    at + 1 < place → place < close + 1 → piece_at words place ≡ piece.Broken → ⊥
unbroken words at close place c f low high e =
    elim (cases_lt place close) [
      | inl h ↦ f place low h e
      | inr h ↦ let same : place ≡ close = omega (arith, h, high) in
          let no : piece.Broken ≡ piece.Close = sym e ∙ ap (piece_at words) same ∙ c in cc
    ]

-- WORKPIECE
pub workpiece_form_found : (words : WordsView) (at : ℕ) (s : Statement) → IsKeyword words at (codes "WORKPIECE") → workpiece_form words (at + 1) ≡ Ok s → (s ≡ Message) × IsWorkpiece words at (length words.tokens)
unfolding workpiece_form
workpiece_form_found words at s k h =
    let a = bound _ _ _ h in
    let o = open_found words (at + 1) 22 a.0 a.1 in
    let b = bound _ _ _ a.2 in
    one_of (has_broken words a.0 (b.0 - a.0)) (Err 22) (statement_alone words b.0 Message) s b.2
    (λ c e. refused 22 s e)
    (λ c e. let f = alone_found words b.0 Message s e in
    let w = piece_within words (at + 1) piece.Open o.0 tt in
    let t = last_found words.tokens b.0 (omega (arith, w)) b.1 (past_end words b.0 f.0) in
    let shut = close_stands words t.1 t.0 t.2 t.3 in
    let apart : at + 1 < t.1 = between words at t.1 o.0 shut (omega (arith, w, t.4)) in
    let Q = λ (n : ℕ). (place : ℕ) → n ≤ place → place < n + (b.0 - n) → piece_at words place ≡ piece.Broken → ⊥ in
    let g = subst Q o.1 (broken_found words (b.0 - a.0) a.0 c) in
    (sym f.1, (t.1, k, o.0, apart, (λ place low high e. g place (omega (arith, low)) (omega (arith, high, t.5, apart)) e), shut, sym t.4, refl)))

pub workpiece_form_only : (words : WordsView) (at : ℕ) → IsWorkpiece words at (length words.tokens) → workpiece_form words (at + 1) ≡ Ok Message
unfolding workpiece_form
workpiece_form_only words at h =
    let all = length words.tokens in
    let t = close_token words h.0 h.5 in
    let l = last_only words.tokens h.0 t.0 t.1 t.2 (sym h.6) in
    let f = broken_only words (all - (at + 1 + 1)) (at + 1 + 1) (λ place low high e. unbroken words at h.0 place h.5 h.4 (omega (arith, low)) (omega (arith, high, h.6, h.3)) e) in
    rw (open_only words (at + 1) 22 h.2, l, f) (alone_only words all Message (at_line_end words all refl))
