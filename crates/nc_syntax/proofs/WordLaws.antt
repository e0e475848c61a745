-- WordsView: what is read as a word is spelled so.
use Rattle.std.proofs.Common.{◌≡◌, ℕ, ◌+◌, List, [], ◌∷◌, refl, ap, sym, ◌∙◌, subst, inl, inr, Option, Some, None, Result, Ok, Err, Bool, true, false, cond, arith}
use Rattle.std.specs.Prelude.{ℤ, ◌==◌, ◌&&◌, ◌||◌, codes}
use Rattle.std.proofs.lemmas.Bool.{eqb-true}
use Rattle.block_scanner.specs.WordsView.{WordsView}
use Rattle.g_groups.specs.declared.GWord.{GWord}
use Rattle.word_tables.specs.GroupWords.{word_by_number, word_by_name}
use Rattle.nc_expressions.specs.Symbols.{is_word}
use Rattle.nc_expressions.specs.Tree.{Tree, Number}
use Rattle.nc_expressions.specs.Value.{◌>>=◌}
use Rattle.nc_blocks.specs.declared.blocks.Measure.{Measure}
use Rattle.nc_blocks.specs.declared.blocks.Measure.TheVariants.{Modal, Absolute, Incremental}
use Rattle.nc_blocks.specs.declared.pieces.Piece.{Piece}
use Rattle.nc_blocks.specs.declared.pieces.Piece.TheVariants as piece
use Rattle.nc_expressions.specs.NameTexts.{upper}
use Rattle.nc_blocks.specs.Texts.{text_within_quotes}
use Rattle.nc_blocks.specs.Pieces.{piece_at, text_at, is_assign, is_name}
use Rattle.nc_blocks.specs.Marks.{word_code, assign_at, close_bracket_at, is_keyword}
use Rattle.nc_blocks.specs.Reading.{value_at, after_sign}
use Rattle.nc_blocks.specs.AxisNames.{has_digits, has_axis_name, has_axis_word}
use Rattle.nc_blocks.specs.Statement.{OperandView, Value, Text, WordView, Assign, AssignAt, G, Axis, Radius, Aux, End}
use Rattle.nc_blocks.specs.Wording.{assigned_at, bracketed_at, is_open_bracket, assignment_at, group_word, g_of_piece, g_at, enclosed_value, measured_at, measured_word, letter_word, axis_word_at, slot_word_at, other_axis_at, is_program_end, plain_aux, aux_value, has_digits_assign, numbered_aux, aux_of, aux_at, bracket_at, spindle_at, is_spindle_word, name_code, name_word, is_centre_letter, is_slot_letter, lettered_word, word_of_piece, word_at}
use Rattle.nc_forms.specs.Standing.{IsKeyword, IsExpressionText, IsEnclosed, IsBracketed, IsAssigned}
use Rattle.nc_syntax.specs.SpelledWords.{IsMeasured, IsPlainAxis, IsAuxLetter, IsOperand, IsBracket, IsWord}
use Rattle.nc_forms.proofs.Standings.{value_found}
use Rattle.nc_forms.proofs.Marked.{bound, taken, refused, one_of, parts_true, same_pair, assign_found, open_found, close_found, close_bracket_found, constant_found, index_found, digits_found}
use Rattle.nc_forms.proofs.PieceLaws.{assign_is, axis_name_found, moved, text_is}

pub measured_moved : (P : ℕ → Measure → Tree → Type 0) (m k : Measure) (t u : Tree) (b d : ℕ) →
    ◌≡◌ {A = Result (Measure × Tree × ℕ) ℕ} (Ok (m, t, b)) (Ok (k, u, d)) → P b m t → P d k u
measured_moved P m k t u b d e h =
    let same : (m, t, b) ≡ (k, u, d) = cc in
    let Q = λ (p : Measure × Tree × ℕ). P p.2 p.0 p.1 in
    subst Q same h

pub assigned_found : (words : WordsView) (at end : ℕ) (t : Tree) → assigned_at words at ≡ Ok (t, end) → IsAssigned words at end t
unfolding assigned_at
assigned_found words at end t h =
    let b = bound (assign_at words at (word_code words at)) (λ following. value_at words following) (t, end) h in
    let a = assign_found words at (word_code words at) b.0 b.1 in
    let P = λ (n : ℕ). IsExpressionText words n end t in
    (a.0, subst P a.1 (value_found words b.0 end t b.2))

pub bracketed_found : (words : WordsView) (at end : ℕ) (t : Tree) → piece_at words at ≡ piece.OpenBracket → bracketed_at words at ≡ Ok (t, end) → IsBracketed words at end t
unfolding bracketed_at
bracketed_found words at end t o h =
    let b = bound (value_at words (at + 1)) _ (t, end) h in
    let c = bound (close_bracket_at words b.0.1 (word_code words b.0.1)) _ (t, end) b.2 in
    let k = close_bracket_found words b.0.1 (word_code words b.0.1) c.0 c.1 in
    let P = λ (n : ℕ) (x : Tree). IsBracketed words at n x in
    moved P b.0.0 t c.0 end c.2 (b.0.1, o, value_found words (at + 1) b.0.1 b.0.0 b.1, k.0, k.1)

pub enclosed_found : (words : WordsView) (at end : ℕ) (t : Tree) → enclosed_value words at ≡ Ok (t, end) → IsEnclosed words at end t
unfolding enclosed_value
enclosed_found words at end t h =
    let a = bound _ _ _ h in
    let o = open_found words at (word_code words at) a.0 a.1 in
    let b = bound _ _ _ a.2 in
    let c = bound _ _ _ b.2 in
    let k = close_found words b.0.1 (word_code words b.0.1) c.0 c.1 in
    let P = λ (n : ℕ) (x : Tree). IsEnclosed words at n x in
    let Q = λ (n : ℕ). IsExpressionText words n b.0.1 b.0.0 in
    moved P b.0.0 t c.0 end c.2 (b.0.1, o.0, subst Q o.1 (value_found words a.0 b.0.1 b.0.0 b.1), k.0, k.1)

measured_found : (words : WordsView) (at end : ℕ) (m : Measure) (t : Tree) → measured_at words at ≡ Ok (m, t, end) → IsMeasured words at end m t
unfolding measured_at
measured_found words at end m t h =
    let P = λ (n : ℕ) (k : Measure) (x : Tree). IsMeasured words at n k x in
    one_of _ _ _ _ h
    (λ is ae. let b = bound _ _ _ ae in
    measured_moved P Absolute m b.0.0 t b.0.1 end b.2 (is, enclosed_found words (at + 1) b.0.1 b.0.0 b.1))
    (λ rt re. one_of _ _ _ _ re
    (λ is ae. let b = bound _ _ _ ae in
    measured_moved P Incremental m b.0.0 t b.0.1 end b.2 (is, enclosed_found words (at + 1) b.0.1 b.0.0 b.1))
    (λ qt qe. let b = bound _ _ _ qe in
    measured_moved P Modal m b.0.0 t b.0.1 end b.2 (value_found words at b.0.1 b.0.0 b.1)))

open_bracket_is : (p : Piece) → is_open_bracket p ≡ true → p ≡ piece.OpenBracket
open_bracket_is piece.OpenBracket h = refl
open_bracket_is p h = cc

-- an assignment to a parameter
assignment_found : (words : WordsView) (at end : ℕ) (x : WordView) → piece_at words at ≡ piece.Letter 82 → assignment_at words (at + 1) ≡ Ok (x, end) → IsWord words at end x
unfolding assignment_at
assignment_found words at end x r h =
    let P = λ (n : ℕ) (y : WordView). IsWord words at n y in
    one_of _ _ _ _ h
    (λ is ae. let b = bound _ _ _ ae in
    let c = bound _ _ _ b.2 in
    moved P (AssignAt b.0.0 c.0.0) x c.0.1 end c.2
    (b.0.1, r, bracketed_found words (at + 1) b.0.1 b.0.0 (open_bracket_is (piece_at words (at + 1)) is) b.1, assigned_found words b.0.1 c.0.1 c.0.0 c.1))
    (λ is ae. let b = bound _ _ _ ae in
    let c = bound _ _ _ b.2 in
    let place : at + 1 + 1 ≡ at + 2 = omega arith in
    let Q = λ (n : ℕ). IsAssigned words n c.0.1 c.0.0 in
    moved P (Assign b.0 c.0.0) x c.0.1 end c.2
    (r, index_found words (at + 1) (word_code words (at + 1)) b.0 b.1, subst Q place (assigned_found words (at + 1 + 1) c.0.1 c.0.0 c.1)))

-- words of groups
group_found : (o : Option GWord) (next code : ℕ) (x : WordView) (end : ℕ) → group_word o next code ≡ Ok (x, end) →
    (w : GWord) × (o ≡ Some w) × (x ≡ G w.group w.code) × (end ≡ next)
group_found (Some w) next code x end h =
    let p = same_pair (G w.group w.code) x next end h in (w, refl, sym p.0, sym p.1)
group_found None next code x end h = cc

g_cases : (words : WordsView) (at end : ℕ) (x : WordView) (p : Piece) → piece_at words at ≡ piece.Letter 71 → piece_at words (at + 1) ≡ p →
    g_of_piece p (at + 1 + 1) (word_code words (at + 1)) ≡ Ok (x, end) → IsWord words at end x
g_cases words at end x (piece.Number z) l e h =
    let g = group_found (word_by_number z) (at + 1 + 1) 57 x end h in
    let P = λ (y : WordView). IsWord words at end y in
    subst P (sym g.2) (inl (z, l, e, g.1, omega (arith, g.3)))
g_cases words at end x p l e h = cc

g_found : (words : WordsView) (at end : ℕ) (x : WordView) → piece_at words at ≡ piece.Letter 71 → g_at words (at + 1) ≡ Ok (x, end) → IsWord words at end x
unfolding g_at
g_found words at end x l h = g_cases words at end x (piece_at words (at + 1)) l refl h

-- axes
letter_found : (words : WordsView) (at letter end : ℕ) (x : WordView) → IsPlainAxis words at letter → letter_word words letter (at + 1) ≡ Ok (x, end) → IsWord words at end x
unfolding letter_word measured_word
letter_found words at letter end x l h =
    let P = λ (n : ℕ) (y : WordView). IsWord words at n y in
    one_of _ _ _ _ h
    (λ is ae. let b = bound _ _ _ ae in
    let place : at + 1 + 1 ≡ at + 2 = omega arith in
    let Q = λ (n : ℕ). IsMeasured words n b.0.2 b.0.0 b.0.1 in
    moved P (Axis (letter ∷ []) b.0.0 b.0.1) x b.0.2 end b.2
    (inr (inl (letter, l, assign_is (piece_at words (at + 1)) is, subst Q place (measured_found words (at + 1 + 1) b.0.2 b.0.0 b.0.1 b.1), refl))))
    (λ is ae. let b = bound _ _ _ ae in
    moved P (Axis (letter ∷ []) Modal (Number b.0.0)) x b.0.1 end b.2
    (inl (letter, b.0.0, l, constant_found words (at + 1) (word_code words (after_sign words (at + 1))) b.0.0 b.0.1 b.1, refl, refl, refl)))

axis_word_found : (words : WordsView) (at letter end : ℕ) (x : WordView) → piece_at words at ≡ piece.Letter letter → has_axis_word words at ≡ true →
    axis_word_at words letter at ≡ Ok (x, end) → IsWord words at end x
unfolding has_axis_word axis_word_at measured_word
axis_word_found words at letter end x l h k =
    let P = λ (n : ℕ) (y : WordView). IsWord words at n y in
    let p = parts_true (has_axis_name words at) (is_assign (piece_at words (at + 2))) h in
    let b = bound _ _ _ k in
    moved P (Axis (letter ∷ text_at words (at + 1)) b.0.0 b.0.1) x b.0.2 end b.2
    (inr (inr (axis_name_found words at letter l p.0, assign_is (piece_at words (at + 2)) p.1, measured_found words (at + 3) b.0.2 b.0.0 b.0.1 b.1)))

pub or_left : (a b : Bool) → a ≡ true → (a || b) ≡ true
or_left true b h = refl
or_left false b h = cc

pub or_right : (a b : Bool) → b ≡ true → (a || b) ≡ true
or_right true b h = refl
or_right false b h = h

slot_found : (words : WordsView) (at letter end : ℕ) (x : WordView) → piece_at words at ≡ piece.Letter letter → is_slot_letter letter ≡ true →
    slot_word_at words letter at ≡ Ok (x, end) → IsWord words at end x
unfolding slot_word_at
slot_found words at letter end x l s h =
    one_of _ _ _ _ h
    (λ is ae. axis_word_found words at letter end x l is ae)
    (λ is ae. letter_found words at letter end x (l, or_left (is_slot_letter letter) (is_centre_letter letter) s) ae)

other_axis_found : (words : WordsView) (at letter end : ℕ) (x : WordView) → piece_at words at ≡ piece.Letter letter →
    other_axis_at words letter at ≡ Ok (x, end) → IsWord words at end x
unfolding other_axis_at
other_axis_found words at letter end x l h =
    one_of _ _ _ _ h
    (λ is ae. axis_word_found words at letter end x l is ae)
    (λ is ae. one_of (has_axis_name words at) (Err (word_code words (at + 2))) (Err 27) (x, end) ae
    (λ ct ce. refused (word_code words (at + 2)) (x, end) ce)
    (λ ct ce. refused 27 (x, end) ce))

-- words that move nothing
program_end_letter : (letter : ℕ) (z : ℤ) → is_program_end letter z ≡ true → letter ≡ 77
program_end_letter letter z h = eqb-true letter 77 (parts_true (letter == 77) _ h).0

plain_aux_cases : (words : WordsView) (at letter end : ℕ) (z : ℤ) (x : WordView) (b : Bool) → is_program_end letter z ≡ b → IsAuxLetter words at letter → piece_at words (at + 1) ≡ piece.Number z →
    cond b End (Aux (letter ∷ []) None (Value (Number z))) ≡ x → end ≡ at + 2 → IsWord words at end x
plain_aux_cases words at letter end z x true e l n h place =
    let m = program_end_letter letter z e in
    let P = λ (y : WordView). IsWord words at end y in
    subst P h (z, l.0 ∙ ap (λ k. piece.Letter k) m, n, ap (λ k. is_program_end k z) (sym m) ∙ e, place)
plain_aux_cases words at letter end z x false e l n h place =
    let P = λ (y : WordView). IsWord words at end y in
    subst P h (inl (refl, (letter, z, l, n, e, refl, refl, place)))

numbered_found : (words : WordsView) (at letter end : ℕ) (z : ℤ) (x : WordView) → IsAuxLetter words at letter → piece_at words (at + 1) ≡ piece.Number z →
    numbered_aux words letter z (at + 1) ≡ Ok (x, end) → IsWord words at end x
unfolding numbered_aux has_digits_assign
numbered_found words at letter end z x l n h =
    let P = λ (k : ℕ) (y : WordView). IsWord words at k y in
    one_of _ _ _ _ h
    (λ is ae. let p = parts_true (has_digits words (at + 1)) (is_assign (piece_at words (at + 1 + 1))) is in
    let b = bound _ _ _ ae in
    let place : at + 1 + 1 ≡ at + 2 = omega arith in
    let further : at + 1 + 2 ≡ at + 2 + 1 = omega arith in
    let Q = λ (k : ℕ). piece_at words k ≡ piece.Assign in
    let R = λ (k : ℕ). IsExpressionText words k b.0.1 b.0.0 in
    moved P (Aux (letter ∷ text_at words (at + 1)) None (Value b.0.0)) x b.0.1 end b.2
    (inr (inr (inl (
      refl,
      (
        letter,
        b.0.0,
        l,
        digits_found words (at + 1) p.0,
        (subst Q place (assign_is (piece_at words (at + 1 + 1)) p.1), subst R further (value_found words (at + 1 + 2) b.0.1 b.0.0 b.1)),
        refl,
        refl,
      ),
    )))))
    (λ is ae. let p = same_pair (plain_aux letter z) x (at + 1 + 1) end ae in
    plain_aux_cases words at letter end z x (is_program_end letter z) refl l n p.0 (omega (arith, p.1)))

operand_found : (words : WordsView) (at end : ℕ) (o : OperandView) → aux_value words at ≡ Ok (o, end) → IsOperand words at end o
unfolding aux_value
operand_found words at end o h =
    let P = λ (k : ℕ) (y : OperandView). IsOperand words at k y in
    one_of _ _ _ _ h
    (λ is ae. moved P (Text (text_within_quotes (text_at words at))) o (at + 1) end ae (text_is (piece_at words at) is, refl, refl))
    (λ is ae. let b = bound _ _ _ ae in moved P (Value b.0.0) o b.0.1 end b.2 (value_found words at b.0.1 b.0.0 b.1))

aux_other : (words : WordsView) (at letter end : ℕ) (x : WordView) (p : Piece) → IsAuxLetter words at letter → piece_at words (at + 1) ≡ p →
    cond (is_assign p) (◌>>=◌ {B = WordView × ℕ} (aux_value words (at + 1 + 1)) (λ q. Ok (Aux (letter ∷ []) None q.0, q.1))) (Err (word_code words (at + 1))) ≡ Ok (x, end) → IsWord words at end x
aux_other words at letter end x p l e h =
    let P = λ (k : ℕ) (y : WordView). IsWord words at k y in
    let t = taken _ _ _ _ h in
    let b = bound _ _ _ t.1 in
    let place : at + 1 + 1 ≡ at + 2 = omega arith in
    let R = λ (k : ℕ). IsOperand words k b.0.1 b.0.0 in
    moved P (Aux (letter ∷ []) None b.0.0) x b.0.1 end b.2
    (inr (inl (refl, (letter, l, e ∙ assign_is p t.0, subst R place (operand_found words (at + 1 + 1) b.0.1 b.0.0 b.1), refl))))

aux_cases : (words : WordsView) (at letter end : ℕ) (x : WordView) (p : Piece) → IsAuxLetter words at letter → piece_at words (at + 1) ≡ p →
    aux_of words letter (at + 1) p ≡ Ok (x, end) → IsWord words at end x
aux_cases words at letter end x (piece.Number z) l e h = numbered_found words at letter end z x l e h
aux_cases words at letter end x p l e h = aux_other words at letter end x p l e h

aux_found : (words : WordsView) (at letter end : ℕ) (x : WordView) → IsAuxLetter words at letter → aux_at words letter (at + 1) ≡ Ok (x, end) → IsWord words at end x
unfolding aux_at
aux_found words at letter end x l h = aux_cases words at letter end x (piece_at words (at + 1)) l refl h

bracket_found : (words : WordsView) (at end : ℕ) (i : Option Tree) → bracket_at words at ≡ Ok (i, end) → IsBracket words at end i
unfolding bracket_at
bracket_found words at end i h =
    let P = λ (k : ℕ) (j : Option Tree). IsBracket words at k j in
    one_of _ _ _ _ h
    (λ is ae. let b = bound _ _ _ ae in
    moved P (Some b.0.0) i b.0.1 end b.2 (bracketed_found words at b.0.1 b.0.0 (open_bracket_is (piece_at words at) is) b.1))
    (λ is ae. moved P None i at end ae refl)

spindle_found : (words : WordsView) (at end : ℕ) (x : WordView) → piece_at words at ≡ piece.Name → is_spindle_word (text_at words at) ≡ true →
    spindle_at words (text_at words at) (at + 1) ≡ Ok (x, end) → IsWord words at end x
unfolding spindle_at
spindle_found words at end x n s h =
    let P = λ (k : ℕ) (y : WordView). IsWord words at k y in
    let b = bound _ _ _ h in
    let c = bound _ _ _ b.2 in
    moved P (Aux (upper (text_at words at)) b.0.0 (Value c.0.0)) x c.0.1 end c.2
    (inr (inr (inr (b.0.1, c.0.0, n, s, bracket_found words (at + 1) b.0.1 b.0.0 b.1, assigned_found words b.0.1 c.0.1 c.0.0 c.1, refl, refl))))

pub name_is : (p : Piece) → is_name p ≡ true → p ≡ piece.Name
name_is piece.Name h = refl
name_is p h = cc

pub keyword_of : (words : WordsView) (at : ℕ) (word : List ℕ) → piece_at words at ≡ piece.Name → is_word (text_at words at) word ≡ true → IsKeyword words at word
unfolding is_keyword
keyword_of words at word n h = ap (λ p. is_name p && is_word (text_at words at) word) n ∙ h

name_word_found : (words : WordsView) (at end : ℕ) (x : WordView) → piece_at words at ≡ piece.Name → name_word words (text_at words at) (at + 1) ≡ Ok (x, end) → IsWord words at end x
unfolding name_word
name_word_found words at end x n h =
    let P = λ (k : ℕ) (y : WordView). IsWord words at k y in
    one_of _ _ _ _ h
    (λ is ae. let b = bound _ _ _ ae in
    moved P (Radius b.0.0) x b.0.1 end b.2 (keyword_of words at (codes "CR") n is, assigned_found words (at + 1) b.0.1 b.0.0 b.1))
    (λ rt re. one_of _ _ _ _ re
    (λ is ae. spindle_found words at end x n is ae)
    (λ is ae. let g = group_found (word_by_name (text_at words at)) (at + 1) (name_code (text_at words at)) x end ae in
    let Q = λ (y : WordView). IsWord words at end y in
    subst Q (sym g.2) (inr (n, g.1, g.3))))

letter_is : (words : WordsView) (at b k : ℕ) → piece_at words at ≡ piece.Letter b → (b == k) ≡ true → piece_at words at ≡ piece.Letter k
letter_is words at b k l h = l ∙ ap (λ n. piece.Letter n) (eqb-true b k h)

lettered_found : (words : WordsView) (at letter end : ℕ) (x : WordView) → piece_at words at ≡ piece.Letter letter → lettered_word words letter at ≡ Ok (x, end) → IsWord words at end x
unfolding lettered_word
lettered_found words at letter end x l h =
    one_of _ _ _ _ h
    (λ is ae. assignment_found words at end x (letter_is words at letter 82 l is) ae)
    (λ is ae. one_of _ _ _ _ ae
    (λ bt be. g_found words at end x (letter_is words at letter 71 l bt) be)
    (λ bt be. one_of _ _ _ _ be
    (λ ct ce. slot_found words at letter end x l ct ce)
    (λ ct ce. one_of _ _ _ _ ce
    (λ dt de. letter_found words at letter end x (l, or_right (is_slot_letter letter) (is_centre_letter letter) dt) de)
    (λ dt de. one_of _ _ _ _ de
    (λ et ee. aux_found words at letter end x (l, et) ee)
    (λ et ee. other_axis_found words at letter end x l (taken _ _ _ _ ee).1)))))

word_cases : (words : WordsView) (at end : ℕ) (x : WordView) (p : Piece) → piece_at words at ≡ p → word_of_piece words at p ≡ Ok (x, end) → IsWord words at end x
word_cases words at end x (piece.Letter b) e h = lettered_found words at b end x e h
word_cases words at end x piece.Name e h = name_word_found words at end x e h
word_cases words at end x p e h = cc

-- what is read as a word is spelled so
pub word_found : (words : WordsView) (at end : ℕ) (x : WordView) → word_at words at ≡ Ok (x, end) → IsWord words at end x
unfolding word_at
word_found words at end x h = word_cases words at end x (piece_at words at) refl h
