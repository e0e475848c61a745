-- Bodies: what is read is spelled so, and what is spelled so is read.
use Rattle.std.proofs.Common.{◌≡◌, ℕ, ◌+◌, ◌≤◌, List, [], ◌∷◌, length, refl, ap, sym, ◌∙◌, subst, inl, inr, Option, Some, None, Ok, Bool, true, false, arith}
use Rattle.std.specs.Prelude.{ℤ, ◌==◌, codes}
use Rattle.std.proofs.lemmas.Bool.{eqb-true}
use Rattle.block_scanner.specs.WordsView.{WordsView}
use Rattle.nc_blocks.specs.declared.blocks.CoordWord.{CoordWord}
use Rattle.nc_blocks.specs.declared.blocks.FrameWord.{FrameWord}
use Rattle.nc_blocks.specs.declared.pieces.Piece.{Piece}
use Rattle.nc_blocks.specs.declared.pieces.Piece.TheVariants as piece
use Rattle.nc_expressions.specs.NameTexts.{name_of}
use Rattle.nc_blocks.specs.Pieces.{piece_at, text_at}
use Rattle.nc_blocks.specs.Statement.{OperandView, WordView, Statement, Empty, WordBlock, Jump, IfJump, If, Else, EndIf, While, EndWhile, Repeat, Until, Loop, EndLoop, For, EndFor, Case, RepeatFrom, RepeatBlock, Call, Return, Proc, Shape, Turn, Coord, Message}
use Rattle.nc_expressions.specs.Tree.{Tree}
use Rattle.nc_blocks.specs.Wording.{words_form}
use Rattle.nc_syntax.specs.declared.bodies.Control.TheVariants as control
use Rattle.nc_syntax.specs.declared.bodies.Form.{Form}
use Rattle.nc_syntax.specs.declared.bodies.Form.TheVariants as form
use Rattle.nc_forms.specs.LineEnds.{statement_alone}
use Rattle.nc_syntax.specs.Structures.{call_form, number_name, number_call_form}
use Rattle.nc_syntax.specs.Bodies.{form_of, control_form, form_body, named_form, named_body, is_number, lettered_body, body_of, body_at}
use Rattle.nc_forms.specs.Standing.{IsKeyword, IsAlone}
use Rattle.nc_syntax.specs.Spelled.{IsParentheses, IsPasses, IsCall, AreWords, IsSpelled}
use Rattle.nc_forms.specs.SpelledForms.{IsShape, turn_name, IsAngle, IsCoordination, IsMessage}
use Rattle.nc_forms.proofs.Marked.{bound, one_of, parts_true}
use Rattle.nc_syntax.proofs.WordLaws.{keyword_of}
use Rattle.nc_syntax.proofs.WordBlocks.{word_starts, words_form_found, words_form_only}
use Rattle.nc_forms.proofs.LineEnds.{line_end, at_line_end, alone_form_found}
use Rattle.nc_syntax.proofs.FormNames.{form_name, form_found, form_read, word_name_read, program_name_read}
use Rattle.nc_syntax.proofs.JumpLaws.{last_found, last_only, jump_form_found, jump_form_only, if_form_found, if_jump_only, if_only, case_form_found, case_form_only}
use Rattle.nc_syntax.proofs.StructureLaws.{alone_form_only, for_form_found, for_form_only, repeat_form_found, repeat_from_only, repeat_only, repeat_block_found, repeat_block_only, name_call_found, number_call_found, call_only, number_name_only, proc_form_found, proc_form_only}
use Rattle.nc_forms.proofs.FrameLaws.{shape_form_found, shape_form_only, turn_form_found, turn_form_only}
use Rattle.nc_forms.proofs.CoordinationLaws.{coordination_form_found, coordination_form_only}
use Rattle.nc_forms.proofs.MessageLaws.{msg_form_found, msg_form_only, setms_form_found, setms_form_only, workpiece_form_found, workpiece_form_only}

abbrev IsDone : WordsView → ℕ → Statement → Type 0
IsDone words at s = IsSpelled words at (length words.tokens) s

-- forms after their names
alone_done : (words : WordsView) (at : ℕ) (word : List ℕ) (s x : Statement) → IsKeyword words at word → statement_alone words (at + 1) s ≡ Ok x →
    (IsAlone words at (length words.tokens) word → IsDone words at s) → IsDone words at x
alone_done words at word s x k h f =
    let a = alone_form_found words at word s x k h in
    let P = λ (y : Statement). IsDone words at y in
    subst P a.1 (f a.0)

while_found : (words : WordsView) (at : ℕ) (s : Statement) → IsKeyword words at (codes "WHILE") → form_body words (form.Control control.While) (at + 1) ≡ Ok s → IsDone words at s
unfolding form_body control_form IsSpelled
while_found words at s k h =
    let b = bound _ _ _ h in
    let same : While b.0 ≡ s = cc in
    let P = λ (y : Statement). IsDone words at y in
    subst P same (k, last_found words (at + 1) b.0 b.1)

until_found : (words : WordsView) (at : ℕ) (s : Statement) → IsKeyword words at (codes "UNTIL") → form_body words (form.Control control.Until) (at + 1) ≡ Ok s → IsDone words at s
unfolding form_body control_form IsSpelled
until_found words at s k h =
    let b = bound _ _ _ h in
    let same : Until b.0 ≡ s = cc in
    let P = λ (y : Statement). IsDone words at y in
    subst P same (k, last_found words (at + 1) b.0 b.1)

-- what the forms of the crate below say is spelled
of_shape : (words : WordsView) (at : ℕ) (which : FrameWord) (s : Statement) →
    ((xs : List (ℕ × Tree)) × (s ≡ Shape which xs) × IsShape words at (length words.tokens) which xs) → IsDone words at s
unfolding IsSpelled
of_shape words at which s r = let P = λ (y : Statement). IsDone words at y in subst P (sym r.1) r.2

of_turn : (words : WordsView) (at : ℕ) (more : Bool) (s : Statement) →
    ((o : Option Tree) × (s ≡ Turn more o) × IsKeyword words at (turn_name more) × IsAngle words (at + 1) (length words.tokens) o) → IsDone words at s
unfolding IsSpelled
of_turn words at more s r = let P = λ (y : Statement). IsDone words at y in subst P (sym r.1) (r.2, r.3)

of_coordination : (words : WordsView) (at : ℕ) (which : CoordWord) (s : Statement) →
    ((xs : List OperandView) × (s ≡ Coord which xs) × IsCoordination words at (length words.tokens) which xs) → IsDone words at s
unfolding IsSpelled
of_coordination words at which s r = let P = λ (y : Statement). IsDone words at y in subst P (sym r.1) r.2

of_message : (words : WordsView) (at : ℕ) (s : Statement) → s ≡ Message → IsMessage words at (length words.tokens) → IsDone words at s
unfolding IsSpelled
of_message words at s e h = let P = λ (y : Statement). IsDone words at y in subst P (sym e) h

form_done : (words : WordsView) (at : ℕ) (f : Form) (s : Statement) → IsKeyword words at (form_name f) → form_body words f (at + 1) ≡ Ok s → IsDone words at s
unfolding form_body control_form IsSpelled
form_done words at (form.Jump way) s k h = jump_form_found words at way s k h
form_done words at (form.Control control.If) s k h = if_form_found words at s k h
form_done words at (form.Control control.Else) s k h = alone_done words at (codes "ELSE") Else s k h (λ a. a)
form_done words at (form.Control control.EndIf) s k h = alone_done words at (codes "ENDIF") EndIf s k h (λ a. a)
form_done words at (form.Control control.While) s k h = while_found words at s k h
form_done words at (form.Control control.EndWhile) s k h = alone_done words at (codes "ENDWHILE") EndWhile s k h (λ a. a)
form_done words at (form.Control control.Until) s k h = until_found words at s k h
form_done words at (form.Control control.Loop) s k h = alone_done words at (codes "LOOP") Loop s k h (λ a. a)
form_done words at (form.Control control.EndLoop) s k h = alone_done words at (codes "ENDLOOP") EndLoop s k h (λ a. a)
form_done words at (form.Control control.For) s k h = for_form_found words at s k h
form_done words at (form.Control control.EndFor) s k h = alone_done words at (codes "ENDFOR") EndFor s k h (λ a. a)
form_done words at (form.Control control.Case) s k h = case_form_found words at s k h
form_done words at (form.Control control.Repeat) s k h = repeat_form_found words at s k h
form_done words at (form.Control control.RepeatBlock) s k h = repeat_block_found words at s k h
form_done words at (form.Control control.Return) s k h = alone_done words at (codes "RET") Return s k h (λ a. a)
form_done words at (form.Control control.Proc) s k h = proc_form_found words at s k h
form_done words at (form.Shape which) s k h = of_shape words at which s (shape_form_found words at which s k h)
form_done words at (form.Turn more) s k h = of_turn words at more s (turn_form_found words at more s k h)
form_done words at (form.Coord which) s k h = of_coordination words at which s (coordination_form_found words at which s k h)
form_done words at form.Msg s k h = let m = msg_form_found words at s k h in of_message words at s m.0 (inl m.1)
form_done words at form.Stopre s k h = alone_done words at (codes "STOPRE") Message s k h (λ a. inr (inl a))
form_done words at form.Setms s k h = let m = setms_form_found words at s k h in of_message words at s m.0 (inr (inr (inl m.1)))
form_done words at form.Workpiece s k h = let m = workpiece_form_found words at s k h in of_message words at s m.0 (inr (inr (inr m.1)))

words_done : (words : WordsView) (at : ℕ) (s : Statement) → words_form words at ≡ Ok s → IsDone words at s
unfolding IsSpelled
words_done words at s h =
    let f = words_form_found words at s h in
    let P = λ (y : Statement). IsDone words at y in
    subst P (sym f.1) f.2

named_cases : (words : WordsView) (at : ℕ) (s : Statement) (o : Option Form) → piece_at words at ≡ piece.Name → form_of (text_at words at) ≡ o →
    named_form words o (text_at words at) at ≡ Ok s → IsDone words at s
named_cases words at s (Some f) n e h = form_done words at f s (keyword_of words at (form_name f) n (form_found (text_at words at) f e)) h
named_cases words at s None n e h =
    one_of _ _ _ _ h
    (λ t f. words_done words at s f)
    (λ t f. name_call_found words at s n t f)

number_piece_is : (p : Piece) → is_number p ≡ true → (z : ℤ) × (p ≡ piece.Number z)
number_piece_is (piece.Number z) h = (z, refl)
number_piece_is p h = cc

letter_done : (words : WordsView) (at b : ℕ) (s : Statement) → piece_at words at ≡ piece.Letter b → lettered_body words b at ≡ Ok s → IsDone words at s
unfolding lettered_body
letter_done words at b s l h =
    one_of _ _ _ _ h
    (λ t f. let p = parts_true (b == 76) (is_number (piece_at words (at + 1))) t in
    let n = number_piece_is (piece_at words (at + 1)) p.1 in
    number_call_found words at n.0 s (l ∙ ap (λ k. piece.Letter k) (eqb-true b 76 p.0)) n.1 f)
    (λ t f. words_done words at s f)

body_cases : (words : WordsView) (at : ℕ) (s : Statement) (p : Piece) → at ≤ length words.tokens → piece_at words at ≡ p → body_of words at p ≡ Ok s → IsDone words at s
unfolding named_body IsSpelled
body_cases words at s piece.End w e h =
    let same : Empty ≡ s = cc in
    let P = λ (y : Statement). IsDone words at y in
    subst P same (sym (line_end words at e w))
body_cases words at s piece.Name w e h = named_cases words at s (form_of (text_at words at)) e refl h
body_cases words at s (piece.Letter b) w e h = letter_done words at b s e h
body_cases words at s p w e h = words_done words at s h

pub body_found : (words : WordsView) (at : ℕ) (s : Statement) → at ≤ length words.tokens → body_at words at ≡ Ok s → IsDone words at s
unfolding body_at
body_found words at s w h = body_cases words at s (piece_at words at) w refl h

-- what is spelled is read
letter_words : (words : WordsView) (at b : ℕ) → piece_at words at ≡ piece.Letter b → (b == 76) ≡ false → body_at words at ≡ words_form words at
unfolding body_at lettered_body
letter_words words at b l h = ap (λ p. body_of words at p) l ∙ rw h refl

words_only : (words : WordsView) (at : ℕ) (xs : List WordView) → AreWords words at (length words.tokens) xs → body_at words at ≡ Ok (WordBlock xs)
words_only words at [] h = absurd h
words_only words at (x ∷ xs) h =
    elim (word_starts words at h.0 x h.1) [
      | inl a ↦ letter_words words at a.0 a.1 a.2 ∙ words_form_only words at (x ∷ xs) h
      | inr a ↦ word_name_read words at a.0 a.1 ∙ words_form_only words at (x ∷ xs) h
    ]

call_only_at : (words : WordsView) (at from middle n : ℕ) (name : List ℕ) → from ≡ at → IsParentheses words from middle → IsPasses words middle (length words.tokens) n →
    call_form words name at ≡ Ok (Call name n)
call_only_at words at from middle n name e p h =
    let P = λ (k : ℕ). IsParentheses words k middle in call_only words at middle n name (subst P e p) h

number_call_only : (words : WordsView) (at from middle n : ℕ) (z : ℤ) → piece_at words at ≡ piece.Letter 76 → piece_at words (at + 1) ≡ piece.Number z →
    number_name (text_at words (at + 1)) ≡ Ok (76 ∷ text_at words (at + 1)) → from ≡ at + 2 → IsParentheses words from middle → IsPasses words middle (length words.tokens) n →
    body_at words at ≡ Ok (Call (76 ∷ text_at words (at + 1)) n)
unfolding body_at lettered_body number_call_form
number_call_only words at from middle n z l k d e p h =
    ap (λ q. body_of words at q) l
    ∙ rw (k, d, call_only_at words (at + 1 + 1) from middle n (76 ∷ text_at words (at + 1)) (omega (arith, e)) p h) refl

calls_only : (words : WordsView) (at : ℕ) (name : List ℕ) (n : ℕ) → IsCall words at (length words.tokens) name n → body_at words at ≡ Ok (Call name n)
calls_only words at name n h =
    elim h.2 [
      | inl a ↦ program_name_read words at a.0.0 a.1 ∙ call_only_at words (at + 1) h.0 h.1 n (name_of (text_at words at)) a.2 h.3 h.4
          ∙ ap (λ (x : List ℕ). Ok (Call x n)) (sym a.0.1)
      | inr a ↦ number_call_only words at h.0 h.1 n a.0 a.1 a.2 (number_name_only (text_at words (at + 1)) a.3 a.4) a.6 h.3 h.4
          ∙ ap (λ (x : List ℕ). Ok (Call x n)) (sym a.5)
    ]

message_only : (words : WordsView) (at : ℕ) → IsMessage words at (length words.tokens) → body_at words at ≡ Ok Message
unfolding form_body
message_only words at h =
    elim h [
      | inl a ↦ form_read words at form.Msg a.1 ∙ msg_form_only words at a
      | inr b ↦ elim b [
        | inl a ↦ form_read words at form.Stopre a.0 ∙ alone_form_only words at (codes "STOPRE") Message a
        | inr c ↦ elim c [
          | inl a ↦ form_read words at form.Setms a.0 ∙ setms_form_only words at a
          | inr a ↦ form_read words at form.Workpiece a.1 ∙ workpiece_form_only words at a
        ]
      ]
    ]

empty_only : (words : WordsView) (at : ℕ) → length words.tokens ≡ at → body_at words at ≡ Ok Empty
unfolding body_at
empty_only words at h = ap (λ p. body_of words at p) (at_line_end words at (sym h))

pub body_only : (words : WordsView) (at : ℕ) (s : Statement) → IsDone words at s → body_at words at ≡ Ok s
unfolding form_body control_form IsSpelled
body_only words at Empty h = empty_only words at h
body_only words at (WordBlock xs) h = words_only words at xs h
body_only words at (Jump j) h = form_read words at (form.Jump j.way) h.0 ∙ jump_form_only words at j h
body_only words at (IfJump t j) h = form_read words at (form.Control control.If) h.1 ∙ if_jump_only words at h.0 t j h.2 h.3
body_only words at (If t) h = form_read words at (form.Control control.If) h.0 ∙ if_only words at t h.1
body_only words at Else h = form_read words at (form.Control control.Else) h.0 ∙ alone_form_only words at (codes "ELSE") Else h
body_only words at EndIf h = form_read words at (form.Control control.EndIf) h.0 ∙ alone_form_only words at (codes "ENDIF") EndIf h
body_only words at (While t) h = form_read words at (form.Control control.While) h.0 ∙ rw (last_only words (at + 1) t h.1) refl
body_only words at EndWhile h = form_read words at (form.Control control.EndWhile) h.0 ∙ alone_form_only words at (codes "ENDWHILE") EndWhile h
body_only words at Repeat h = form_read words at (form.Control control.Repeat) h.0 ∙ repeat_only words at h
body_only words at (Until t) h = form_read words at (form.Control control.Until) h.0 ∙ rw (last_only words (at + 1) t h.1) refl
body_only words at Loop h = form_read words at (form.Control control.Loop) h.0 ∙ alone_form_only words at (codes "LOOP") Loop h
body_only words at EndLoop h = form_read words at (form.Control control.EndLoop) h.0 ∙ alone_form_only words at (codes "ENDLOOP") EndLoop h
body_only words at (For i t u) h = form_read words at (form.Control control.For) h.1 ∙ for_form_only words at i t u h
body_only words at EndFor h = form_read words at (form.Control control.EndFor) h.0 ∙ alone_form_only words at (codes "ENDFOR") EndFor h
body_only words at (Case t [] o) h = absurd h
body_only words at (Case t (x ∷ xs) o) h = form_read words at (form.Control control.Case) h.2 ∙ case_form_only words at t (x ∷ xs) o h
body_only words at (RepeatFrom label o) h = form_read words at (form.Control control.Repeat) h.0 ∙ repeat_from_only words at label o h.1 h.2
body_only words at (RepeatBlock label o) h = form_read words at (form.Control control.RepeatBlock) h.0 ∙ repeat_block_only words at label o h.1 h.2
body_only words at (Call name n) h = calls_only words at name n h
body_only words at Return h = form_read words at (form.Control control.Return) h.0 ∙ alone_form_only words at (codes "RET") Return h
body_only words at (Proc name) h = form_read words at (form.Control control.Proc) h.0 ∙ proc_form_only words at name h
body_only words at (Shape which xs) h = form_read words at (form.Shape which) h.0 ∙ shape_form_only words at which xs h
body_only words at (Turn more o) h = form_read words at (form.Turn more) h.0 ∙ turn_form_only words at more o h.1
body_only words at (Coord which xs) h = form_read words at (form.Coord which) h.1 ∙ coordination_form_only words at which xs h
body_only words at Message h = message_only words at h
