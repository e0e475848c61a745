-- Axis names, words that move nothing, and word blocks: the reader by tokens goes on as the reader of the line.
use Rattle.std.proofs.Common.{◌≡◌, ℕ, ◌+◌, List, [], ◌∷◌, refl, ap, sym, ◌∙◌, subst, Option, Some, None, Result, Ok, Err, Bool, true, false, cond, arith}
use Rattle.std.specs.Prelude.{ℤ, ◌==◌, ◌&&◌, codes}
use Rattle.block_scanner.specs.WordsView.{WordsView}
use Rattle.word_tables.specs.GroupWords.{word_by_name}
use Rattle.nc_expressions.specs.declared.levels.Level.TheVariants.{Plain}
use Rattle.nc_expressions.specs.Machine as machine
use Rattle.nc_expressions.specs.Symbols.{is_word, is_digits}
use Rattle.nc_expressions.specs.Tree.{Tree}
use Rattle.nc_expressions.specs.Value.{◌>>=◌}
use Rattle.nc_blocks.specs.declared.pieces.Piece.{Piece}
use Rattle.nc_blocks.specs.declared.pieces.Piece.TheVariants as piece
use Rattle.nc_expressions.specs.NameTexts.{upper}
use Rattle.nc_blocks.specs.Pieces.{piece_at, text_at, is_assign, is_text}
use Rattle.nc_blocks.specs.Marks.{word_code, assign_at}
use Rattle.nc_blocks.specs.Reading.{value_at, after_sign, constant_at}
use Rattle.nc_blocks.specs.AxisNames.{is_axis_letter, is_digits_piece, has_digits, has_axis_name, has_axis_word}
use Rattle.nc_blocks.specs.Texts.{text_within_quotes}
use Rattle.nc_blocks.specs.Wording.{assignment_at, g_at, assigned_at, bracketed_at, is_open_bracket, group_word, measured_word, letter_word, axis_word_at, slot_word_at, other_axis_at, plain_aux, aux_value, has_digits_assign, numbered_aux, aux_of, aux_at, bracket_at, spindle_at, is_spindle_word, name_code, name_word, is_slot_letter, is_centre_letter, is_aux_letter, lettered_word, word_of_piece, word_at}
use Rattle.nc_blocks.specs.Statement.{WordView, Aux, Radius, OperandView, Value, Text}
use Rattle.nc_syntax.specs.Wanted.{mark_at, Assigns, Parameter, GNumber, Measured, AfterCentre, AfterSlot, AfterDigits, AfterAxis, AfterAux, AfterAuxDigits, ValueOrText, Bracket, AWord, start, fail, Push, No, want, value_want, group_want, centre_want, slot_number, slot_want, then_assign, axis_digits, axis_want, aux_digits, aux_want, bracket_want, letter_want, name_want, word_want, Stack}
use Rattle.nc_syntax.proofs.Wanted.{run_at, follow}
use Rattle.nc_syntax.proofs.Stepping.{after, one_step}
use Rattle.nc_syntax.proofs.Signs.{assigns, values}
use Rattle.nc_syntax.proofs.Words.{chain, made, following, assigned, bracketed, parameters, group_case, g_words, measured_words, centre_words, letter_words}

-- after the digits of a slot letter: = or the next word
digits_case : (words : WordsView) (address : List ℕ) (at : ℕ) (st : Stack) (p : Piece) →
    after words at (then_assign (Measured ∷ []) p) st ≡ cond (is_assign p) (follow (measured_word words address (at + 1)) (λ p. run_at words p.1 st)) (run_at words at st)
digits_case words address at st piece.Assign = measured_words words address (at + 1) st
digits_case words address at st p = refl

after_digits : (words : WordsView) (address : List ℕ) (at : ℕ) (st : Stack) →
    run_at words at (AfterDigits ∷ st) ≡ cond (is_assign (piece_at words at)) (follow (measured_word words address (at + 1)) (λ p. run_at words p.1 st)) (run_at words at st)
unfolding want
after_digits words address at st = one_step words at AfterDigits st ∙ digits_case words address at st (piece_at words at)

follow_cond : {A : Type 0} (b : Bool) (r q : Result A ℕ) (f : A → Option ℕ) → follow (cond b r q) f ≡ cond b (follow r f) (follow q f)
follow_cond true r q f = refl
follow_cond false r q f = refl

-- after X, Y and Z
letter_number : (words : WordsView) (letter at : ℕ) (st : Stack) (z : ℤ) → piece_at words at ≡ piece.Number z →
    run_at words (at + 1) st ≡ follow (letter_word words letter at) (λ p. run_at words p.1 st)
unfolding letter_word constant_at after_sign
letter_number words letter at st z e = rw e (rw e refl)

slot_digits : (words : WordsView) (letter at : ℕ) (address : List ℕ) (st : Stack) (d : Bool) → run_at words (at + 1) st ≡ follow (letter_word words letter at) (λ p. run_at words p.1 st) →
    after words at (slot_number d) st
    ≡ follow (cond (d && is_assign (piece_at words (at + 1))) (measured_word words address (at + 1 + 1)) (letter_word words letter at)) (λ p. run_at words p.1 st)
slot_digits words letter at address st true e =
    let a = is_assign (piece_at words (at + 1)) in
    let k : WordView × ℕ → Option ℕ = λ p. run_at words p.1 st in
    after_digits words address (at + 1) st
    ∙ ap (λ (o : Option ℕ). cond a (follow (measured_word words address (at + 1 + 1)) k) o) e
    ∙ sym (follow_cond a (measured_word words address (at + 1 + 1)) (letter_word words letter at) k)
slot_digits words letter at address st false e = e

slot_case : (words : WordsView) (letter at : ℕ) (address : List ℕ) (st : Stack) (p : Piece) → piece_at words at ≡ p →
    after words at (slot_want p (text_at words at) (fail true (mark_at words at))) st
    ≡ follow (cond (is_digits_piece p (text_at words at) && is_assign (piece_at words (at + 1))) (measured_word words address (at + 1 + 1)) (letter_word words letter at)) (λ p. run_at words p.1 st)
slot_case words letter at address st (piece.Number z) e = slot_digits words letter at address st (is_digits (text_at words at)) (letter_number words letter at st z e)
slot_case words letter at address st p e = subst (λ (q : Piece). after words at (centre_want q (fail true (mark_at words at))) st ≡ follow (letter_word words letter at) (λ p. run_at words p.1 st)) e (centre_words words letter at st)

slot_after : (words : WordsView) (letter at : ℕ) (address : List ℕ) (st : Stack) →
    run_at words at (AfterSlot ∷ st)
    ≡ follow (cond (has_digits words at && is_assign (piece_at words (at + 1))) (measured_word words address (at + 1 + 1)) (letter_word words letter at)) (λ p. run_at words p.1 st)
unfolding want has_digits
slot_after words letter at address st = one_step words at AfterSlot st ∙ slot_case words letter at address st (piece_at words at) refl

two : (at : ℕ) → at + 1 + 1 ≡ at + 2
two at = omega arith

three : (at : ℕ) → at + 2 + 1 ≡ at + 3
three at = omega arith

pub slot_words : (words : WordsView) (letter at : ℕ) (st : Stack) → piece_at words at ≡ piece.Letter letter → is_axis_letter letter ≡ true →
    run_at words (at + 1) (AfterSlot ∷ st) ≡ follow (slot_word_at words letter at) (λ p. run_at words p.1 st)
unfolding slot_word_at has_axis_word has_axis_name axis_word_at
slot_words words letter at st e axis =
    slot_after words letter (at + 1) (letter ∷ text_at words (at + 1)) st ∙ rw (e, axis, two at, three at) refl

-- after another letter of an axis
axis_after : (words : WordsView) (at : ℕ) (address : List ℕ) (st : Stack) (p : Piece) → is_assign p ≡ is_assign (piece_at words at) → piece_at words at ≡ p →
    run_at words at (Assigns true ∷ Measured ∷ st)
    ≡ follow (cond (is_assign p) (measured_word words address (at + 1)) (Err (word_code words at))) (λ p. run_at words p.1 st)
unfolding assign_at word_code
axis_after words at address st piece.Assign h e = assigns words at true (Measured ∷ st) ∙ rw e (measured_words words address (at + 1) st)
axis_after words at address st p h e = assigns words at true (Measured ∷ st) ∙ rw e refl

axis_digits_case : (words : WordsView) (at : ℕ) (address : List ℕ) (st : Stack) (d : Bool) →
    after words at (axis_digits d) st
    ≡ follow (cond (d && is_assign (piece_at words (at + 1))) (measured_word words address (at + 1 + 1)) (cond d (Err (word_code words (at + 1))) (Err 27))) (λ p. run_at words p.1 st)
axis_digits_case words at address st true = axis_after words (at + 1) address st (piece_at words (at + 1)) refl refl
axis_digits_case words at address st false = refl

axis_case : (words : WordsView) (at : ℕ) (address : List ℕ) (st : Stack) (p : Piece) →
    after words at (axis_want p (text_at words at)) st
    ≡ follow (cond (is_digits_piece p (text_at words at) && is_assign (piece_at words (at + 1))) (measured_word words address (at + 1 + 1))
    (cond (is_digits_piece p (text_at words at)) (Err (word_code words (at + 1))) (Err 27))) (λ p. run_at words p.1 st)
axis_case words at address st (piece.Number z) = axis_digits_case words at address st (is_digits (text_at words at))
axis_case words at address st p = refl

axis_step : (words : WordsView) (at : ℕ) (address : List ℕ) (st : Stack) →
    run_at words at (AfterAxis ∷ st)
    ≡ follow (cond (has_digits words at && is_assign (piece_at words (at + 1))) (measured_word words address (at + 1 + 1))
    (cond (has_digits words at) (Err (word_code words (at + 1))) (Err 27))) (λ p. run_at words p.1 st)
unfolding want has_digits
axis_step words at address st = one_step words at AfterAxis st ∙ axis_case words at address st (piece_at words at)

pub axis_words : (words : WordsView) (letter at : ℕ) (st : Stack) → piece_at words at ≡ piece.Letter letter → is_axis_letter letter ≡ true →
    run_at words (at + 1) (AfterAxis ∷ st) ≡ follow (other_axis_at words letter at) (λ p. run_at words p.1 st)
unfolding other_axis_at has_axis_word has_axis_name axis_word_at
axis_words words letter at st e axis =
    axis_step words (at + 1) (letter ∷ text_at words (at + 1)) st ∙ rw (e, axis, two at, three at) refl

-- words that move nothing
start_value : (words : WordsView) (at : ℕ) (st : Stack) →
    after words at (value_want true (machine.Wants [] Plain) (mark_at words at) (mark_at words at).symbol) st ≡ follow (value_at words at) (λ p. run_at words p.1 st)
unfolding want
start_value words at st = sym (one_step words at (start true) st) ∙ values words at st

text_or : (words : WordsView) (at : ℕ) (st : Stack) (b : Bool) →
    after words at (cond b (Push []) (value_want true (machine.Wants [] Plain) (mark_at words at) (mark_at words at).symbol)) st
    ≡ follow {A = OperandView × ℕ} (cond b (Ok (Text (text_within_quotes (text_at words at)), at + 1)) (value_at words at >>= λ p. Ok (Value p.0, p.1))) (λ p. run_at words p.1 st)
text_or words at st true = refl
text_or words at st false = start_value words at st ∙ made {B = OperandView × ℕ} (value_at words at) (λ p. (Value p.0, p.1)) (following words st)

pub operands : (words : WordsView) (at : ℕ) (st : Stack) → run_at words at (ValueOrText ∷ st) ≡ follow (aux_value words at) (λ p. run_at words p.1 st)
unfolding want aux_value
operands words at st = one_step words at ValueOrText st ∙ text_or words at st (is_text (piece_at words at))

extended_case : (words : WordsView) (letter at : ℕ) (z : ℤ) (address : List ℕ) (st : Stack) (p : Piece) → piece_at words (at + 1) ≡ p →
    after words (at + 1) (then_assign (start true ∷ []) p) st
    ≡ follow {A = WordView × ℕ} (cond (is_assign p) (value_at words (at + 1 + 1) >>= λ p. Ok (Aux address None (Value p.0), p.1)) (Ok (plain_aux letter z, at + 1))) (λ p. run_at words p.1 st)
extended_case words letter at z address st piece.Assign e =
    values words (at + 1 + 1) st ∙ made {B = WordView × ℕ} (value_at words (at + 1 + 1)) (λ p. (Aux address None (Value p.0), p.1)) (following words st)
extended_case words letter at z address st p e = refl

aux_digits_case : (words : WordsView) (letter at : ℕ) (z : ℤ) (address : List ℕ) (st : Stack) (d : Bool) →
    after words at (aux_digits d) st
    ≡ follow {A = WordView × ℕ} (cond (d && is_assign (piece_at words (at + 1))) (value_at words (at + 1 + 1) >>= λ p. Ok (Aux address None (Value p.0), p.1)) (Ok (plain_aux letter z, at + 1))) (λ p. run_at words p.1 st)
unfolding want
aux_digits_case words letter at z address st true =
    one_step words (at + 1) AfterAuxDigits st ∙ extended_case words letter at z address st (piece_at words (at + 1)) refl
aux_digits_case words letter at z address st false = refl

aux_case : (words : WordsView) (letter at : ℕ) (st : Stack) (p : Piece) → piece_at words at ≡ p →
    after words at (aux_want p (text_at words at) (fail true (mark_at words at))) st ≡ follow (aux_of words letter at p) (λ p. run_at words p.1 st)
unfolding numbered_aux has_digits_assign has_digits word_code
aux_case words letter at st (piece.Number z) e =
    aux_digits_case words letter at z (letter ∷ text_at words at) st (is_digits (text_at words at)) ∙ rw (e, two at) refl
aux_case words letter at st piece.Assign e =
    operands words (at + 1) st ∙ made {B = WordView × ℕ} (aux_value words (at + 1)) (λ p. (Aux (letter ∷ []) None p.0, p.1)) (following words st)
aux_case words letter at st p e = refl

pub aux_words : (words : WordsView) (letter at : ℕ) (st : Stack) → run_at words at (AfterAux ∷ st) ≡ follow (aux_at words letter at) (λ p. run_at words p.1 st)
unfolding want aux_at
aux_words words letter at st = one_step words at AfterAux st ∙ aux_case words letter at st (piece_at words at) refl

-- SPOS and the like
bracket_case : (words : WordsView) (at : ℕ) (st : Stack) (p : Piece) →
    after words at (bracket_want p) st
    ≡ follow (cond (is_open_bracket p) (◌>>=◌ {B = Option Tree × ℕ} (bracketed_at words at) (λ q. Ok (Some q.0, q.1))) (Ok (None, at))) (λ p. run_at words p.1 st)
bracket_case words at st piece.OpenBracket = bracketed words at st ∙ made {B = Option Tree × ℕ} (bracketed_at words at) (λ q. (Some q.0, q.1)) (following words st)
bracket_case words at st p = refl

pub brackets : (words : WordsView) (at : ℕ) (st : Stack) → run_at words at (Bracket ∷ st) ≡ follow (bracket_at words at) (λ p. run_at words p.1 st)
unfolding want bracket_at
brackets words at st = one_step words at Bracket st ∙ bracket_case words at st (piece_at words at)

pub spindle_words : (words : WordsView) (text : List ℕ) (at : ℕ) (st : Stack) →
    run_at words at (Bracket ∷ Assigns true ∷ start true ∷ st) ≡ follow (spindle_at words text at) (λ p. run_at words p.1 st)
unfolding spindle_at
spindle_words words text at st =
    brackets words at (Assigns true ∷ start true ∷ st)
    ∙ chain _ _ _ _ (λ (i : Option Tree × ℕ). assigned words i.1 st
    ∙ made {B = WordView × ℕ} (assigned_at words i.1) (λ p. (Aux (upper text) i.0 (Value p.0), p.1)) (following words st))

-- names
name_case : (words : WordsView) (text : List ℕ) (at : ℕ) (st : Stack) (a b : Bool) →
    after words at (cond a (Push (Assigns true ∷ start true ∷ [])) (cond b (Push (Bracket ∷ Assigns true ∷ start true ∷ [])) (group_want (word_by_name text) (name_code text)))) st
    ≡ follow (cond a (assigned_at words (at + 1) >>= λ p. Ok (Radius p.0, p.1)) (cond b (spindle_at words text (at + 1)) (group_word (word_by_name text) (at + 1) (name_code text)))) (λ p. run_at words p.1 st)
name_case words text at st true b = assigned words (at + 1) st ∙ made {B = WordView × ℕ} (assigned_at words (at + 1)) (λ p. (Radius p.0, p.1)) (following words st)
name_case words text at st false true = spindle_words words text (at + 1) st
name_case words text at st false false = group_case words at (name_code text) st (word_by_name text)

names : (words : WordsView) (text : List ℕ) (at : ℕ) (st : Stack) → after words at (name_want text) st ≡ follow (name_word words text (at + 1)) (λ p. run_at words p.1 st)
unfolding name_word
names words text at st = name_case words text at st (is_word text (codes "CR")) (is_spindle_word text)

-- a word
letter_case : (words : WordsView) (letter at : ℕ) (st : Stack) (r g s c a x : Bool) → piece_at words at ≡ piece.Letter letter → (s ≡ true → is_axis_letter letter ≡ true) → (x ≡ true → is_axis_letter letter ≡ true) →
    after words at (cond r (Push (Parameter ∷ [])) (cond g (Push (GNumber ∷ [])) (cond s (Push (AfterSlot ∷ [])) (cond c (Push (AfterCentre ∷ [])) (cond a (Push (AfterAux ∷ [])) (cond x (Push (AfterAxis ∷ [])) (No 27))))))) st
    ≡ follow (cond r (assignment_at words (at + 1)) (cond g (g_at words (at + 1)) (cond s (slot_word_at words letter at) (cond c (letter_word words letter (at + 1)) (cond a (aux_at words letter (at + 1)) (cond x (other_axis_at words letter at) (Err 27))))))) (λ p. run_at words p.1 st)
letter_case words letter at st true g s c a x e h k = parameters words (at + 1) st
letter_case words letter at st false true s c a x e h k = g_words words (at + 1) st
letter_case words letter at st false false true c a x e h k = slot_words words letter at st e (h refl)
letter_case words letter at st false false false true a x e h k = letter_words words letter (at + 1) st
letter_case words letter at st false false false false true x e h k = aux_words words letter (at + 1) st
letter_case words letter at st false false false false false true e h k = axis_words words letter at st e (k refl)
letter_case words letter at st false false false false false false e h k = refl

pub slot_is_axis : (b : ℕ) → is_slot_letter b ≡ true → is_axis_letter b ≡ true
slot_is_axis b h = grind arith

lettered : (words : WordsView) (letter at : ℕ) (st : Stack) → piece_at words at ≡ piece.Letter letter →
    after words at (letter_want letter) st ≡ follow (lettered_word words letter at) (λ p. run_at words p.1 st)
unfolding lettered_word
lettered words letter at st e =
    letter_case words letter at st (letter == 82) (letter == 71) (is_slot_letter letter) (is_centre_letter letter) (is_aux_letter letter) (is_axis_letter letter) e (slot_is_axis letter) (λ h. h)

word_case : (words : WordsView) (at : ℕ) (st : Stack) (p : Piece) → piece_at words at ≡ p →
    after words at (word_want p (text_at words at)) st ≡ follow (word_of_piece words at p) (λ p. run_at words p.1 st)
word_case words at st (piece.Letter b) e = lettered words b at st e
word_case words at st piece.Name e = names words (text_at words at) at st
word_case words at st p e = refl

pub a_word : (words : WordsView) (at : ℕ) (st : Stack) → run_at words at (AWord ∷ st) ≡ follow (word_at words at) (λ p. run_at words p.1 st)
unfolding want word_at
a_word words at st = one_step words at AWord st ∙ word_case words at st (piece_at words at) refl
