-- Loops, repetitions, calls and heads: what is read is spelled so, and what is spelled so is read.
use Rattle.std.proofs.Common.{◌≡◌, ℕ, ◌+◌, ◌<◌, ◌≤◌, List, ◌∷◌, length, refl, ap, sym, ◌∙◌, subst, inl, inr, Option, Some, None, Result, Ok, Err, Bool, true, false, cond, arith}
use Rattle.std.specs.Prelude.{ℤ, pos, negsuc, ◌*◌, ◌/◌, ◌%◌, ◌⊎◌, ◌==◌, ◌&&◌, nat_le, codes}
use Rattle.std.proofs.lemmas.Bool.{eqb-true, eq-eqb, leb-true, le-leb}
use Rattle.block_scanner.specs.WordsView.{WordsView}
use Rattle.name_tables.specs.Tables.{is_table_word}
use Rattle.nc_expressions.specs.Symbols.{is_digits, name_symbol, value_symbol}
use Rattle.nc_expressions.specs.Tree.{Tree}
use Rattle.nc_blocks.specs.declared.pieces.Piece.{Piece}
use Rattle.nc_blocks.specs.declared.pieces.Piece.TheVariants as piece
use Rattle.nc_expressions.specs.NameTexts.{name_of}
use Rattle.nc_blocks.specs.Pieces.{piece_at, text_at}
use Rattle.nc_blocks.specs.Marks.{end_at, is_keyword, code_at}
use Rattle.nc_blocks.specs.Statement.{Statement, For, RepeatFrom, RepeatBlock, Repeat, Call, Proc}
use Rattle.nc_forms.specs.LineEnds.{statement_alone}
use Rattle.nc_syntax.specs.Structures.{is_letter, counter_at, first_value, for_form, times_at, repeat_form, repeat_block_form, has_close, parentheses_at, pass_count, count_of_piece, passes_at, call_passes, call_form, number_name, number_call_form, proc_form}
use Rattle.nc_forms.specs.Parentheses.{is_close, is_open}
use Rattle.nc_forms.specs.Standing.{IsKeyword, IsExpressionText, IsIndex, IsNameOf, IsAlone}
use Rattle.nc_syntax.specs.Spelled.{IsFor, IsTimes, IsParentheses, IsPasses, IsProc, IsSpelled}
use Rattle.nc_forms.proofs.Standings.{piece_within, past_end, follows_keyword, expression_found, expression_only}
use Rattle.nc_forms.proofs.Marked.{bound, taken, one_of, parts_true, same_pair, end_found, end_only, assign_found, assign_only, keyword_found, keyword_only, index_found, index_only, label_found, label_only}
use Rattle.nc_syntax.proofs.WordLaws.{name_is}
use Rattle.nc_forms.proofs.PieceLaws.{both, close_piece}
use Rattle.nc_forms.proofs.LineEnds.{line_end, at_line_end, keyword_within, alone_found, alone_only, alone_form_found}
use Rattle.nc_syntax.proofs.JumpLaws.{last_found, last_only}

pub alone_form_only : (words : WordsView) (at : ℕ) (word : List ℕ) (s : Statement) → IsAlone words at (length words.tokens) word → statement_alone words (at + 1) s ≡ Ok s
alone_form_only words at word s h = alone_only words (at + 1) s (at_line_end words (at + 1) (sym h.1))

pub letter_piece : (p : Piece) (b : ℕ) → is_letter p b ≡ true → p ≡ piece.Letter b
letter_piece (piece.Letter k) b h = ap (λ n. piece.Letter n) (eqb-true k b h)
letter_piece p b h = cc

-- FOR
counter_found : (words : WordsView) (at i end : ℕ) → counter_at words at ≡ Ok (i, end) →
    (piece_at words at ≡ piece.Letter 82) × IsIndex words (at + 1) i × (piece_at words (at + 2) ≡ piece.Assign) × (end ≡ at + 3)
unfolding counter_at
counter_found words at i end h =
    let t = taken _ _ _ _ h in
    let a = bound _ _ _ t.1 in
    let b = bound _ _ _ a.2 in
    let p = same_pair a.0 i b.0 end b.2 in
    let e = assign_found words (at + 2) 22 b.0 b.1 in
    let P = λ (n : ℕ). IsIndex words (at + 1) n in
    (letter_piece (piece_at words at) 82 t.0, subst P p.0 (index_found words (at + 1) 22 a.0 a.1), e.0, omega (arith, p.1, e.1))

counter_only : (words : WordsView) (at i : ℕ) → piece_at words at ≡ piece.Letter 82 → IsIndex words (at + 1) i → piece_at words (at + 2) ≡ piece.Assign → counter_at words at ≡ Ok (i, at + 3)
unfolding counter_at
counter_only words at i h x e =
    let place : at + 2 + 1 ≡ at + 3 = omega arith in
    rw (h, index_only words (at + 1) 22 i x, assign_only words (at + 2) 22 e, place) refl

first_value_found : (words : WordsView) (at end : ℕ) (t : Tree) → first_value words at ≡ Ok (t, end) →
    (middle : ℕ) × IsExpressionText words at middle t × IsKeyword words middle (codes "TO") × (end ≡ middle + 1)
unfolding first_value
first_value_found words at end t h =
    let a = bound _ _ _ h in
    let b = bound _ _ _ a.2 in
    let k = keyword_found words a.0.1 (codes "TO") b.0 b.1 in
    let p = same_pair a.0.0 t b.0 end b.2 in
    let P = λ (x : Tree). IsExpressionText words at a.0.1 x in
    (a.0.1, subst P p.0 (expression_found words at a.0.1 a.0.0 a.1), k.0, sym p.1 ∙ k.1)

first_value_only : (words : WordsView) (at middle : ℕ) (t : Tree) → IsExpressionText words at middle t → IsKeyword words middle (codes "TO") → first_value words at ≡ Ok (t, middle + 1)
unfolding first_value name_symbol value_symbol
first_value_only words at middle t x k =
    rw (expression_only words at middle t x (follows_keyword words middle (codes "TO") k tt), keyword_only words middle (codes "TO") k) refl

pub for_form_found : (words : WordsView) (at : ℕ) (s : Statement) → IsKeyword words at (codes "FOR") → for_form words (at + 1) ≡ Ok s → IsSpelled words at (length words.tokens) s
unfolding for_form IsSpelled
for_form_found words at s k h =
    let a = bound _ _ _ h in
    let b = bound _ _ _ a.2 in
    let c = bound _ _ _ b.2 in
    let same : For a.0.0 b.0.0 c.0 ≡ s = cc in
    let n = counter_found words (at + 1) a.0.0 a.0.1 a.1 in
    let v = first_value_found words a.0.1 b.0.1 b.0.0 b.1 in
    let l = last_found words b.0.1 c.0 c.1 in
    let one : at + 1 + 1 ≡ at + 2 = omega arith in
    let two : at + 1 + 2 ≡ at + 3 = omega arith in
    let three : a.0.1 ≡ at + 3 + 1 = omega (arith, n.3) in
    let I = λ (i : ℕ). IsIndex words i a.0.0 in
    let A = λ (i : ℕ). piece_at words i ≡ piece.Assign in
    let X = λ (i : ℕ). IsExpressionText words i v.0 b.0.0 in
    let Y = λ (i : ℕ). IsExpressionText words i (length words.tokens) c.0 in
    let P = λ (x : Statement). IsSpelled words at (length words.tokens) x in
    subst P same (v.0, k, n.0, subst I one n.1, (subst A two n.2, subst X three v.1), v.2, subst Y v.3 l)

pub for_form_only : (words : WordsView) (at i : ℕ) (t u : Tree) → IsFor words at (length words.tokens) i t u → for_form words (at + 1) ≡ Ok (For i t u)
unfolding for_form
for_form_only words at i t u h =
    let one : at + 2 ≡ at + 1 + 1 = omega arith in
    let two : at + 3 ≡ at + 1 + 2 = omega arith in
    let three : at + 3 + 1 ≡ at + 1 + 3 = omega arith in
    let I = λ (n : ℕ). IsIndex words n i in
    let A = λ (n : ℕ). piece_at words n ≡ piece.Assign in
    let X = λ (n : ℕ). IsExpressionText words n h.0 t in
    rw (counter_only words (at + 1) i h.2 (subst I one h.3) (subst A two h.4.0), first_value_only words (at + 1 + 3) h.0 t (subst X three h.4.1) h.5, last_only words (h.0 + 1) u h.6) refl

-- repetitions
times_found : (words : WordsView) (at : ℕ) (o : Option Tree) → at ≤ length words.tokens → times_at words at ≡ Ok o → IsTimes words at (length words.tokens) o
unfolding times_at
times_found words at o w h =
    let P = λ (x : Option Tree). IsTimes words at (length words.tokens) x in
    one_of _ _ _ _ h
    (λ k e. let a = bound _ _ _ e in
    let b = bound _ _ _ a.2 in
    let same : Some b.0 ≡ o = cc in
    let m = assign_found words (at + 1) 22 a.0 a.1 in
    let Q = λ (n : ℕ). IsExpressionText words n (length words.tokens) b.0 in
    subst P same (letter_piece (piece_at words at) 80 k, (m.0, subst Q m.1 (last_found words a.0 b.0 b.1))))
    (λ k e. let a = bound (end_at words at) (λ (n : ℕ). Ok None) o e in
    let same : None ≡ o = cc in
    subst P same (sym (line_end words at (end_found words at a.0 a.1) w)))

times_only : (words : WordsView) (at : ℕ) (o : Option Tree) → IsTimes words at (length words.tokens) o → times_at words at ≡ Ok o
unfolding times_at
times_only words at None h = let e = at_line_end words at (sym h) in rw (e, end_only words at e) refl
times_only words at (Some t) h = rw (h.0, assign_only words (at + 1) 22 h.1.0, last_only words (at + 1 + 1) t h.1.1) refl

pub repeat_form_found : (words : WordsView) (at : ℕ) (s : Statement) → IsKeyword words at (codes "REPEAT") → repeat_form words (at + 1) ≡ Ok s → IsSpelled words at (length words.tokens) s
unfolding repeat_form IsSpelled
repeat_form_found words at s k h =
    let P = λ (x : Statement). IsSpelled words at (length words.tokens) x in
    one_of _ _ _ _ h
    (λ n e. let a = bound _ _ _ e in
    let same : RepeatFrom (name_of (text_at words (at + 1))) a.0 ≡ s = cc in
    let l = name_is (piece_at words (at + 1)) n in
    let place : at + 1 + 1 ≡ at + 2 = omega arith in
    let Q = λ (i : ℕ). IsTimes words i (length words.tokens) a.0 in
    subst P same (k, (l, refl), subst Q place (times_found words (at + 1 + 1) a.0 (let w = piece_within words (at + 1) piece.Name l tt in omega (arith, w)) a.1)))
    (λ n e. let a = alone_form_found words at (codes "REPEAT") Repeat s k e in subst P a.1 a.0)

pub repeat_from_only : (words : WordsView) (at : ℕ) (label : List ℕ) (o : Option Tree) → IsNameOf words (at + 1) label → IsTimes words (at + 2) (length words.tokens) o →
    repeat_form words (at + 1) ≡ Ok (RepeatFrom label o)
unfolding repeat_form
repeat_from_only words at label o n h =
    let place : at + 2 ≡ at + 1 + 1 = omega arith in
    let Q = λ (i : ℕ). IsTimes words i (length words.tokens) o in
    rw (n.0, n.1, times_only words (at + 1 + 1) o (subst Q place h)) refl

pub repeat_only : (words : WordsView) (at : ℕ) → IsAlone words at (length words.tokens) (codes "REPEAT") → repeat_form words (at + 1) ≡ Ok Repeat
unfolding repeat_form
repeat_only words at h = rw (at_line_end words (at + 1) (sym h.1), alone_form_only words at (codes "REPEAT") Repeat h) refl

pub repeat_block_found : (words : WordsView) (at : ℕ) (s : Statement) → IsKeyword words at (codes "REPEATB") → repeat_block_form words (at + 1) ≡ Ok s → IsSpelled words at (length words.tokens) s
unfolding repeat_block_form IsSpelled
repeat_block_found words at s k h =
    let a = bound _ _ _ h in
    let b = bound _ _ _ a.2 in
    let same : RepeatBlock a.0 b.0 ≡ s = cc in
    let l = label_found words (at + 1) a.0 a.1 in
    let place : at + 1 + 1 ≡ at + 2 = omega arith in
    let Q = λ (i : ℕ). IsTimes words i (length words.tokens) b.0 in
    let P = λ (x : Statement). IsSpelled words at (length words.tokens) x in
    subst P same (k, l, subst Q place (times_found words (at + 1 + 1) b.0 (let w = piece_within words (at + 1) piece.Name l.0 tt in omega (arith, w)) b.1))

pub repeat_block_only : (words : WordsView) (at : ℕ) (label : List ℕ) (o : Option Tree) → IsNameOf words (at + 1) label → IsTimes words (at + 2) (length words.tokens) o →
    repeat_block_form words (at + 1) ≡ Ok (RepeatBlock label o)
unfolding repeat_block_form
repeat_block_only words at label o n h =
    let place : at + 2 ≡ at + 1 + 1 = omega arith in
    let Q = λ (i : ℕ). IsTimes words i (length words.tokens) o in
    rw (label_only words (at + 1) label n, times_only words (at + 1 + 1) o (subst Q place h)) refl

-- calls
pub open_piece : (p : Piece) → is_open p ≡ true → p ≡ piece.Open
open_piece piece.Open h = refl
open_piece p h = cc

inner_refused : {C : Type 0} (b : Bool) (x y end : ℕ) → cond b (Err x) (Err y) ≡ Ok end → C
inner_refused true x y end h = cc
inner_refused false x y end h = cc

parentheses_found : (words : WordsView) (at end : ℕ) → parentheses_at words at ≡ Ok end → IsParentheses words at end
unfolding parentheses_at
parentheses_found words at end h =
    one_of _ _ _ _ h
    (λ o e. one_of (is_close (piece_at words (at + 1))) (Ok (at + 2)) (cond (has_close words) (Err (code_at words (at + 1) 58)) (Err 22)) end e
    (λ c f. let same : at + 2 ≡ end = cc in inr (open_piece (piece_at words at) o, close_piece (piece_at words (at + 1)) c, sym same))
    (λ c f. inner_refused (has_close words) (code_at words (at + 1) 58) 22 end f))
    (λ o e. let same : at ≡ end = cc in inl (sym same))

parentheses_only : (words : WordsView) (at end : ℕ) → IsParentheses words at end → is_open (piece_at words end) ≡ false → parentheses_at words at ≡ Ok end
unfolding parentheses_at
parentheses_only words at end h shut =
    elim h [
      | inl a ↦ let P = λ (n : ℕ). is_open (piece_at words n) ≡ false in rw (subst P a shut, a) refl
      | inr a ↦ rw (a.0, a.1, a.2) refl
    ]

parentheses_within : (words : WordsView) (at end : ℕ) → IsParentheses words at end → at ≤ length words.tokens → end ≤ length words.tokens
parentheses_within words at end h w =
    elim h [
      | inl a ↦ omega (arith, a, w)
      | inr a ↦ let c = piece_within words (at + 1) piece.Close a.1 tt in omega (arith, a.2, c)
    ]

whole_product : (n k : ℕ) → n % 1000000 ≡ 0 → n / 1000000 ≡ k → n ≡ k * 1000000
whole_product n k h e = omega (arith, h, e)

count_found : (z : ℤ) (n : ℕ) → pass_count z ≡ Ok n → (z ≡ pos (n * 1000000)) × (1 ≤ n) × (n ≤ 9999)
unfolding pass_count
count_found (pos m) n h =
    let t = taken _ _ _ _ h in
    let a = parts_true (m % 1000000 == 0 && nat_le 1000000 m) (nat_le m 9999000000) t.0 in
    let b = parts_true (m % 1000000 == 0) (nat_le 1000000 m) a.0 in
    let e : ◌≡◌ {A = Result ℕ ℕ} (Ok (m / 1000000)) (Ok n) = t.1 in
    let same : m / 1000000 ≡ n = cc in
    let whole = whole_product m n (eqb-true (m % 1000000) 0 b.0) same in
    let low = leb-true 1000000 m b.1 in
    let high = leb-true m 9999000000 a.1 in
    (ap (λ k. pos k) whole, omega (arith, whole, low), omega (arith, whole, high))
count_found (negsuc m) n h = cc

count_only : (n : ℕ) → 1 ≤ n → n ≤ 9999 → pass_count (pos (n * 1000000)) ≡ Ok n
unfolding pass_count
count_only n low high =
    let m = n * 1000000 in
    let whole : m % 1000000 ≡ 0 = omega arith in
    let quotient : m / 1000000 ≡ n = omega arith in
    let a = both (m % 1000000 == 0) (nat_le 1000000 m) (eq-eqb (m % 1000000) 0 whole) (le-leb 1000000 m (omega (arith, low))) in
    let b = both (m % 1000000 == 0 && nat_le 1000000 m) (nat_le m 9999000000) a (le-leb m 9999000000 (omega (arith, high))) in
    rw (b, quotient) refl

count_cases : (words : WordsView) (at n : ℕ) (p : Piece) → piece_at words at ≡ p → count_of_piece p ≡ Ok n → (piece_at words at ≡ piece.Number (pos (n * 1000000))) × (1 ≤ n) × (n ≤ 9999)
count_cases words at n (piece.Number z) e h =
    let c = count_found z n h in (e ∙ ap (λ v. piece.Number v) c.0, c.1, c.2)
count_cases words at n p e h = cc

passes_found : (words : WordsView) (at n : ℕ) → at ≤ length words.tokens → passes_at words at ≡ Ok n → IsPasses words at (length words.tokens) n
unfolding passes_at
passes_found words at n w h =
    one_of _ _ _ _ h
    (λ k e. let a = bound _ _ _ e in
    let b = bound (end_at words (at + 2)) (λ (m : ℕ). Ok a.0) n a.2 in
    let same : a.0 ≡ n = cc in
    let c = count_cases words (at + 1) n (piece_at words (at + 1)) refl (a.1 ∙ ap (λ m. Ok m) same) in
    let l = piece_within words (at + 1) (piece.Number (pos (n * 1000000))) c.0 tt in
    let place : length words.tokens ≡ at + 2 = omega (arith, past_end words (at + 2) (end_found words (at + 2) b.0 b.1), l) in
    inr (letter_piece (piece_at words at) 80 k, c.0, c.1, c.2, place))
    (λ k e. let b = bound (end_at words at) (λ (m : ℕ). Ok 1) n e in
    let same : 1 ≡ n = cc in
    inl (sym same, sym (line_end words at (end_found words at b.0 b.1) w)))

passes_only : (words : WordsView) (at n : ℕ) → IsPasses words at (length words.tokens) n → passes_at words at ≡ Ok n
unfolding passes_at
passes_only words at n h =
    elim h [
      | inl a ↦ let e = at_line_end words at (sym a.1) in rw (e, end_only words at e, a.0) refl
      | inr a ↦ rw (a.0, a.1, count_only n a.2 a.3, end_only words (at + 2) (at_line_end words (at + 2) (sym a.4))) refl
    ]

passes_open : (words : WordsView) (at n : ℕ) → IsPasses words at (length words.tokens) n → is_open (piece_at words at) ≡ false
passes_open words at n h =
    elim h [
      | inl a ↦ ap is_open (at_line_end words at (sym a.1))
      | inr a ↦ ap is_open a.0
    ]

call_found : (words : WordsView) (at : ℕ) (name : List ℕ) (s : Statement) → at ≤ length words.tokens → call_form words name at ≡ Ok s →
    (middle : ℕ) × (n : ℕ) × IsParentheses words at middle × IsPasses words middle (length words.tokens) n × (s ≡ Call name n)
unfolding call_form call_passes
call_found words at name s w h =
    let a = bound _ _ _ h in
    let b = bound _ _ _ a.1 in
    let same : Call name a.0 ≡ s = cc in
    let p = parentheses_found words at b.0 b.1 in
    (b.0, a.0, p, passes_found words b.0 a.0 (parentheses_within words at b.0 p w) b.2, sym same)

pub call_only : (words : WordsView) (at middle n : ℕ) (name : List ℕ) → IsParentheses words at middle → IsPasses words middle (length words.tokens) n → call_form words name at ≡ Ok (Call name n)
unfolding call_form call_passes
call_only words at middle n name p h = rw (parentheses_only words at middle p (passes_open words middle n h), passes_only words middle n h) refl

pub name_call_found : (words : WordsView) (at : ℕ) (s : Statement) → piece_at words at ≡ piece.Name → is_table_word (text_at words at) ≡ false →
    call_form words (name_of (text_at words at)) (at + 1) ≡ Ok s → IsSpelled words at (length words.tokens) s
unfolding IsSpelled
name_call_found words at s n t h =
    let c = call_found words (at + 1) (name_of (text_at words at)) s (let w = piece_within words at piece.Name n tt in omega (arith, w)) h in
    let P = λ (x : Statement). IsSpelled words at (length words.tokens) x in
    subst P (sym c.4) (at + 1, c.0, inl ((n, refl), t, refl), c.2, c.3)

number_name_found : (digits name : List ℕ) → number_name digits ≡ Ok name → (is_digits digits ≡ true) × (length digits ≤ 31) × (name ≡ 76 ∷ digits)
unfolding number_name
number_name_found digits name h =
    let t = taken _ _ _ _ h in
    let b = parts_true (is_digits digits) (nat_le (length digits) 31) t.0 in
    let e : ◌≡◌ {A = Result (List ℕ) ℕ} (Ok (76 ∷ digits)) (Ok name) = t.1 in
    let same : 76 ∷ digits ≡ name = cc in
    (b.0, leb-true (length digits) 31 b.1, sym same)

pub number_name_only : (digits : List ℕ) → is_digits digits ≡ true → length digits ≤ 31 → number_name digits ≡ Ok (76 ∷ digits)
unfolding number_name
number_name_only digits h w = rw (both (is_digits digits) (nat_le (length digits) 31) h (le-leb (length digits) 31 w)) refl

pub number_call_found : (words : WordsView) (at : ℕ) (z : ℤ) (s : Statement) → piece_at words at ≡ piece.Letter 76 → piece_at words (at + 1) ≡ piece.Number z →
    number_call_form words (at + 1) ≡ Ok s → IsSpelled words at (length words.tokens) s
unfolding number_call_form IsSpelled
number_call_found words at z s l n h =
    let a = bound _ _ _ h in
    let d = number_name_found (text_at words (at + 1)) a.0 a.1 in
    let c = call_found words (at + 1 + 1) a.0 s (let w = piece_within words (at + 1) (piece.Number z) n tt in omega (arith, w)) a.2 in
    let place : at + 1 + 1 ≡ at + 2 = omega arith in
    let P = λ (x : Statement). IsSpelled words at (length words.tokens) x in
    let Q = λ (k : ℕ). IsParentheses words k c.0 in
    subst P (sym c.4) (at + 2, c.0, inr (z, l, n, d.0, d.1, d.2, refl), subst Q place c.2, c.3)

-- PROC
proc_end : (words : WordsView) (at : ℕ) (b : Bool) → is_keyword words (at + 2) (codes "DISPLOF") ≡ b → at + 1 < length words.tokens →
    piece_at words (cond b (at + 1 + 2) (at + 1 + 1)) ≡ piece.End →
    (length words.tokens ≡ at + 2) ⊎ (IsKeyword words (at + 2) (codes "DISPLOF") × (length words.tokens ≡ at + 3))
proc_end words at true k w h = inr (k, omega (arith, past_end words (at + 1 + 2) h, keyword_within words (at + 2) (codes "DISPLOF") k))
proc_end words at false k w h = inl (omega (arith, past_end words (at + 1 + 1) h, w))

pub proc_form_found : (words : WordsView) (at : ℕ) (s : Statement) → IsKeyword words at (codes "PROC") → proc_form words (at + 1) ≡ Ok s → IsSpelled words at (length words.tokens) s
unfolding proc_form IsSpelled
proc_form_found words at s k h =
    let a = bound _ _ _ h in
    let b = alone_found words (cond (is_keyword words (at + 1 + 1) (codes "DISPLOF")) (at + 1 + 2) (at + 1 + 1)) (Proc a.0) s a.2 in
    let l = label_found words (at + 1) a.0 a.1 in
    let place : at + 1 + 1 ≡ at + 2 = omega arith in
    let Q = λ (n : ℕ). piece_at words (cond (is_keyword words n (codes "DISPLOF")) (at + 1 + 2) (at + 1 + 1)) ≡ piece.End in
    let P = λ (x : Statement). IsSpelled words at (length words.tokens) x in
    subst P b.1 (k, l, proc_end words at (is_keyword words (at + 2) (codes "DISPLOF")) refl (piece_within words (at + 1) piece.Name l.0 tt) (subst Q place b.0))

pub proc_form_only : (words : WordsView) (at : ℕ) (name : List ℕ) → IsProc words at (length words.tokens) name → proc_form words (at + 1) ≡ Ok (Proc name)
unfolding proc_form is_keyword
proc_form_only words at name h =
    elim h.2 [
      | inl a ↦ let place : length words.tokens ≡ at + 1 + 1 = omega (arith, a) in
          let e = at_line_end words (at + 1 + 1) (sym place) in
          rw (label_only words (at + 1) name h.1, e, alone_only words (at + 1 + 1) (Proc name) e) refl
      | inr a ↦ let place : length words.tokens ≡ at + 1 + 2 = omega (arith, a.1) in
          let two : at + 2 ≡ at + 1 + 1 = omega arith in
          let e = at_line_end words (at + 1 + 2) (sym place) in
          let K = λ (n : ℕ). is_keyword words n (codes "DISPLOF") ≡ true in
          rw (label_only words (at + 1) name h.1, subst K two a.0, alone_only words (at + 1 + 2) (Proc name) e) refl
    ]
