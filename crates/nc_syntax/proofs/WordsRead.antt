-- WordsView: what is spelled as a word is read so, where another word or the end of the line stands after it.
use Rattle.std.proofs.Common.{◌≡◌, ℕ, ◌+◌, List, ◌∷◌, drop, refl, ap, sym, ◌∙◌, subst, inl, inr, Option, Some, None, Ok, Bool, true, false, arith}
use Rattle.std.specs.Prelude.{ℤ, ◌⊎◌, ◌&&◌, ◌||◌, codes}
use Rattle.std.specs.Str.{bytes_eq, str_to_ascii_lowercase}
use Rattle.block_scanner.specs.WordsView.{WordsView}
use Rattle.nc_expressions.specs.declared.symbols.Symbol.{Symbol}
use Rattle.nc_expressions.specs.Symbols.{symbols_of, name_symbol, value_symbol, is_word}
use Rattle.nc_expressions.specs.Syntax.{Follows}
use Rattle.nc_expressions.specs.Tree.{Tree}
use Rattle.nc_blocks.specs.declared.blocks.Measure.{Measure}
use Rattle.nc_blocks.specs.declared.blocks.Measure.TheVariants.{Modal, Absolute, Incremental}
use Rattle.nc_blocks.specs.declared.pieces.Piece.{Piece}
use Rattle.nc_blocks.specs.declared.pieces.Piece.TheVariants as piece
use Rattle.nc_blocks.specs.Pieces.{piece_at, text_at, is_assign, is_text, is_name}
use Rattle.nc_blocks.specs.Marks.{word_code, is_keyword}
use Rattle.nc_blocks.specs.Reading.{after_sign}
use Rattle.nc_blocks.specs.AxisNames.{is_axis_letter, is_axis_start, has_digits, has_axis_name, has_axis_word}
use Rattle.nc_blocks.specs.Statement.{OperandView, Value, Text, AxisName, Assign, AssignAt, Axis, Aux, End}
use Rattle.nc_blocks.specs.Wording.{assigned_at, bracketed_at, assignment_at, enclosed_value, measured_at, measured_word, letter_word, axis_word_at, slot_word_at, other_axis_at, aux_value, has_digits_assign, numbered_aux, aux_of, aux_at, bracket_at, spindle_at, is_spindle_word, name_word, is_centre_letter, is_slot_letter, is_aux_letter, lettered_word, word_of_piece, word_at}
use Rattle.nc_forms.specs.Standing.{IsKeyword, IsExpressionText, IsSignedNumber, IsEnclosed, IsBracketed, IsAssigned, IsAxisName}
use Rattle.nc_syntax.specs.SpelledWords.{IsMeasured, IsPlainAxis, IsAxisWord, IsAuxLetter, IsNumberedAux, IsOperand, IsAssignedAux, IsExtendedAux, IsBracket, IsSpindleWord, IsAux, IsProgramEnd, IsWord}
use Rattle.nc_forms.proofs.Standings.{Begins, value_only, same_letters, same_symbol, follows_piece, follows_end, follows_letter, keyword_piece, keyword_text, expression_begins}
use Rattle.nc_forms.proofs.PieceLaws.{text_is, axis_name_only, both, false_of, last_false, letter_case, no_digits, or_cases, signed_no_assign}
use Rattle.nc_forms.proofs.Marked.{assign_only, open_only, close_only, close_bracket_only, constant_only, index_only, digits_only}

pub first_false : (a b : Bool) → a ≡ false → (a && b) ≡ false
first_false true b h = cc
first_false false b h = refl

-- names
pub same_word : (a b v : List ℕ) → str_to_ascii_lowercase a ≡ str_to_ascii_lowercase b → is_word a v ≡ is_word b v
same_word a b v h = ap (λ l. bytes_eq l (str_to_ascii_lowercase v)) h

pub other_word : (text w v : List ℕ) → is_word text w ≡ true → is_word w v ≡ false → is_word text v ≡ false
other_word text w v h n = same_word text w v (same_letters text w h) ∙ n

pub other_keyword : (words : WordsView) (at : ℕ) (w v : List ℕ) → IsKeyword words at w → is_word w v ≡ false → is_keyword words at v ≡ false
unfolding is_keyword
other_keyword words at w v h n =
    last_false (is_name (piece_at words at)) (is_word (text_at words at) v) (other_word (text_at words at) w v (keyword_text words at w h) n)

-- no expression begins with this name
pub no_keyword : (words : WordsView) (at end : ℕ) (t : Tree) (word : List ℕ) → IsExpressionText words at end t → (Begins (name_symbol word) → ⊥) → is_keyword words at word ≡ false
no_keyword words at end t word h never = false_of (is_keyword words at word) (λ k.
    let e = same_symbol (text_at words at) word (same_letters (text_at words at) word (keyword_text words at word k)) in
    let P : Symbol → Type 0 = λ s. Begins s in
    never (subst P e (expression_begins words at end t piece.Name h (keyword_piece words at word k) tt)))

pub no_text : (words : WordsView) (at end : ℕ) (t : Tree) → IsExpressionText words at end t → is_text (piece_at words at) ≡ false
no_text words at end t h = false_of (is_text (piece_at words at)) (λ k.
    expression_begins words at end t piece.Text h (text_is (piece_at words at) k) tt)

-- what can stand after a word: the end, a letter, or a name that goes on with no expression
abbrev pub Following : WordsView → ℕ → Type 0
Following words at =
    (piece_at words at ≡ piece.End)
    ⊎ (((b : ℕ) × (piece_at words at ≡ piece.Letter b))
    ⊎ ((piece_at words at ≡ piece.Name) × Follows (drop at (symbols_of words))))

pub after_follows : (words : WordsView) (at : ℕ) → Following words at → Follows (drop at (symbols_of words))
after_follows words at h =
    elim h [
      | inl a ↦ follows_end words at a
      | inr b ↦ elim b [
        | inl c ↦ follows_letter words at c.0 c.1
        | inr c ↦ c.1
      ]
    ]

pub after_assign : (words : WordsView) (at : ℕ) → Following words at → is_assign (piece_at words at) ≡ false
after_assign words at h =
    elim h [
      | inl a ↦ ap is_assign a
      | inr b ↦ elim b [
        | inl c ↦ ap is_assign c.1
        | inr c ↦ ap is_assign c.0
      ]
    ]

-- parts of words
pub assigned_only : (words : WordsView) (at end : ℕ) (t : Tree) → IsAssigned words at end t → Follows (drop end (symbols_of words)) → assigned_at words at ≡ Ok (t, end)
unfolding assigned_at
assigned_only words at end t h f = rw (assign_only words at (word_code words at) h.0) (value_only words (at + 1) end t h.1 f)

pub bracketed_only : (words : WordsView) (at end : ℕ) (t : Tree) → IsBracketed words at end t → bracketed_at words at ≡ Ok (t, end)
unfolding bracketed_at
bracketed_only words at end t h =
    rw (value_only words (at + 1) h.0 t h.2 (follows_piece words h.0 piece.CloseBracket h.3 tt tt), close_bracket_only words h.0 (word_code words h.0) h.3)
    (ap (λ n. Ok (t, n)) (sym h.4))

pub enclosed_only : (words : WordsView) (at end : ℕ) (t : Tree) → IsEnclosed words at end t → enclosed_value words at ≡ Ok (t, end)
unfolding enclosed_value
enclosed_only words at end t h =
    rw (open_only words at (word_code words at) h.1, value_only words (at + 1) h.0 t h.2 (follows_piece words h.0 piece.Close h.3 tt tt), close_only words h.0 (word_code words h.0) h.3)
    (ap (λ n. Ok (t, n)) (sym h.4))

measured_only : (words : WordsView) (at end : ℕ) (m : Measure) (t : Tree) → IsMeasured words at end m t → Follows (drop end (symbols_of words)) →
    measured_at words at ≡ Ok (m, t, end)
unfolding measured_at name_symbol value_symbol
measured_only words at end Modal t h f =
    rw (no_keyword words at end t (codes "AC") h (λ b. absurd b), no_keyword words at end t (codes "IC") h (λ b. absurd b), value_only words at end t h f) refl
measured_only words at end Absolute t h f = rw (h.0, enclosed_only words (at + 1) end t h.1) refl
measured_only words at end Incremental t h f =
    rw (other_keyword words at (codes "IC") (codes "AC") h.0 refl, h.0, enclosed_only words (at + 1) end t h.1) refl

-- from the letter on
pub letter_read : (words : WordsView) (at b : ℕ) → piece_at words at ≡ piece.Letter b → word_at words at ≡ lettered_word words b at
unfolding word_at
letter_read words at b h = ap (word_of_piece words at) h

pub name_read : (words : WordsView) (at : ℕ) → piece_at words at ≡ piece.Name → word_at words at ≡ name_word words (text_at words at) (at + 1)
unfolding word_at
name_read words at h = ap (word_of_piece words at) h

pub assign_read : (words : WordsView) (at end i : ℕ) (t : Tree) → IsWord words at end (Assign i t) → Following words end → word_at words at ≡ Ok (Assign i t, end)
unfolding lettered_word assignment_at
assign_read words at end i t h f =
    let place : at + 1 + 1 ≡ at + 2 = omega arith in
    let P = λ (n : ℕ). IsAssigned words n end t in
    letter_read words at 82 h.0
    ∙ rw (h.1.1, index_only words (at + 1) (word_code words (at + 1)) i h.1, assigned_only words (at + 1 + 1) end t (subst P (sym place) h.2) (after_follows words end f)) refl

pub assign_at_read : (words : WordsView) (at end : ℕ) (i t : Tree) → IsWord words at end (AssignAt i t) → Following words end → word_at words at ≡ Ok (AssignAt i t, end)
unfolding lettered_word assignment_at
assign_at_read words at end i t h f =
    letter_read words at 82 h.1
    ∙ rw (h.2.1, bracketed_only words (at + 1) h.0 i h.2, assigned_only words h.0 end t h.3 (after_follows words end f)) refl

-- axis names and plain axes
pub axis_letters : (P : ℕ → Type 0) (b : ℕ) → is_axis_letter b ≡ true → P 65 → P 66 → P 67 → P 85 → P 86 → P 87 → P 88 → P 89 → P 90 → P b
axis_letters P b h a1 a2 a3 a4 a5 a6 a7 a8 a9 =
    or_cases _ _ h (λ h. or_cases _ _ h (λ h. or_cases _ _ h (λ h. or_cases _ _ h (λ h. or_cases _ _ h (λ h. or_cases _ _ h (λ h. or_cases _ _ h (λ h. or_cases _ _ h
    (λ h. letter_case P b 65 h a1) (λ h. letter_case P b 66 h a2)) (λ h. letter_case P b 67 h a3)) (λ h. letter_case P b 85 h a4)) (λ h. letter_case P b 86 h a5))
    (λ h. letter_case P b 87 h a6)) (λ h. letter_case P b 88 h a7)) (λ h. letter_case P b 89 h a8)) (λ h. letter_case P b 90 h a9)

pub plain_letters : (P : ℕ → Type 0) (b : ℕ) → (is_slot_letter b || is_centre_letter b) ≡ true → P 88 → P 89 → P 90 → P 73 → P 74 → P 75 → P b
plain_letters P b h a1 a2 a3 a4 a5 a6 =
    or_cases _ _ h
    (λ h. or_cases _ _ h (λ h. or_cases _ _ h (λ h. letter_case P b 88 h a1) (λ h. letter_case P b 89 h a2)) (λ h. letter_case P b 90 h a3))
    (λ h. or_cases _ _ h (λ h. or_cases _ _ h (λ h. letter_case P b 73 h a4) (λ h. letter_case P b 74 h a5)) (λ h. letter_case P b 75 h a6))

pub aux_letters : (P : ℕ → Type 0) (b : ℕ) → is_aux_letter b ≡ true → P 77 → P 83 → P 84 → P 68 → P 70 → P 72 → P b
aux_letters P b h a1 a2 a3 a4 a5 a6 =
    or_cases _ _ h (λ h. or_cases _ _ h (λ h. or_cases _ _ h (λ h. or_cases _ _ h (λ h. or_cases _ _ h
    (λ h. letter_case P b 77 h a1) (λ h. letter_case P b 83 h a2)) (λ h. letter_case P b 84 h a3)) (λ h. letter_case P b 68 h a4))
    (λ h. letter_case P b 70 h a5)) (λ h. letter_case P b 72 h a6)

axis_word_only : (words : WordsView) (at : ℕ) (address : List ℕ) → IsAxisName words at address → piece_at words (at + 2) ≡ piece.Assign → has_axis_word words at ≡ true
unfolding has_axis_word
axis_word_only words at address h a = both (has_axis_name words at) (is_assign (piece_at words (at + 2))) (axis_name_only words at address h) (ap is_assign a)

no_assign_after : (words : WordsView) (at : ℕ) → is_assign (piece_at words (at + 2)) ≡ false → has_axis_word words at ≡ false
unfolding has_axis_word
no_assign_after words at h = last_false (has_axis_name words at) (is_assign (piece_at words (at + 2))) h

no_digits_after : (words : WordsView) (at : ℕ) → has_digits words (at + 1) ≡ false → has_axis_word words at ≡ false
unfolding has_axis_word has_axis_name
no_digits_after words at h =
    first_false (is_axis_start (piece_at words at) && has_digits words (at + 1)) (is_assign (piece_at words (at + 2)))
    (last_false (is_axis_start (piece_at words at)) (has_digits words (at + 1)) h)

named_axis_read : (words : WordsView) (at : ℕ) (address : List ℕ) (h : IsAxisName words at address) → piece_at words (at + 2) ≡ piece.Assign →
    word_at words at ≡ measured_word words (h.0 ∷ text_at words (at + 1)) (at + 3)
unfolding lettered_word slot_word_at other_axis_at axis_word_at
named_axis_read words at address h a =
    let t = axis_word_only words at address h a in
    let P : ℕ → Type 0 = λ b. lettered_word words b at ≡ measured_word words (b ∷ text_at words (at + 1)) (at + 3) in
    letter_read words at h.0 h.1
    ∙ axis_letters P h.0 h.2 (rw t refl) (rw t refl) (rw t refl) (rw t refl) (rw t refl) (rw t refl) (rw t refl) (rw t refl) (rw t refl)

plain_axis_read : (words : WordsView) (at letter : ℕ) → IsPlainAxis words at letter → has_axis_word words at ≡ false → word_at words at ≡ letter_word words letter (at + 1)
unfolding lettered_word slot_word_at
plain_axis_read words at letter h t =
    let P : ℕ → Type 0 = λ b. lettered_word words b at ≡ letter_word words b (at + 1) in
    letter_read words at letter h.0 ∙ plain_letters P letter h.1 (rw t refl) (rw t refl) (rw t refl) refl refl refl

-- a number with its sign after a plain axis
signed_no_word : (words : WordsView) (at end : ℕ) (z : ℤ) → IsSignedNumber words (at + 1) end z → Following words end → has_axis_word words at ≡ false
signed_no_word words at end z h f =
    elim h [
      | inl a ↦ let place : end ≡ at + 2 = omega (arith, a.1) in
          let P = λ (n : ℕ). is_assign (piece_at words n) ≡ false in
          no_assign_after words at (subst P place (after_assign words end f))
      | inr b ↦ elim b [
        | inl c ↦ no_digits_after words at (no_digits words (at + 1) piece.Plus c.0 (λ text. refl))
        | inr c ↦ no_digits_after words at (no_digits words (at + 1) piece.Minus c.1 (λ text. refl))
      ]
    ]

pub axis_read : (words : WordsView) (at end : ℕ) (address : List ℕ) (m : Measure) (t : Tree) → IsAxisWord words at end address m t → Following words end →
    word_at words at ≡ Ok (Axis address m t, end)
unfolding letter_word measured_word
axis_read words at end address m t h f =
    elim h [
      | inl a ↦ plain_axis_read words at a.0 a.2 (signed_no_word words at end a.1 a.3 f)
          ∙ rw (signed_no_assign words (at + 1) end a.1 a.3, constant_only words (at + 1) (word_code words (after_sign words (at + 1))) a.1 end a.3, a.4, a.5, a.6) refl
      | inr b ↦ elim b [
        | inl c ↦ let place : at + 1 + 1 ≡ at + 2 = omega arith in
            let P = λ (n : ℕ). IsMeasured words n end m t in
            plain_axis_read words at c.0 c.1 (no_digits_after words at (no_digits words (at + 1) piece.Assign c.2 (λ text. refl)))
            ∙ rw (c.2, measured_only words (at + 1 + 1) end m t (subst P (sym place) c.3) (after_follows words end f), c.4) refl
        | inr c ↦ named_axis_read words at address c.0 c.1
            ∙ rw (measured_only words (at + 3) end m t c.2 (after_follows words end f), c.0.4) refl
      ]
    ]

-- words that move nothing
aux_read : (words : WordsView) (at letter : ℕ) (p : Piece) → IsAuxLetter words at letter → piece_at words (at + 1) ≡ p → word_at words at ≡ aux_of words letter (at + 1) p
unfolding lettered_word aux_at
aux_read words at letter p h e =
    let P : ℕ → Type 0 = λ b. lettered_word words b at ≡ aux_of words b (at + 1) (piece_at words (at + 1)) in
    letter_read words at letter h.0 ∙ aux_letters P letter h.1 refl refl refl refl refl refl ∙ ap (aux_of words letter (at + 1)) e

numbered_read : (words : WordsView) (at end : ℕ) (address : List ℕ) (operand : OperandView) → IsNumberedAux words at end address operand → Following words end →
    word_at words at ≡ Ok (Aux address None operand, end)
unfolding numbered_aux has_digits_assign
numbered_read words at end address operand h f =
    let place : end ≡ at + 1 + 1 = omega (arith, h.7) in
    let P = λ (n : ℕ). is_assign (piece_at words n) ≡ false in
    let none = last_false (has_digits words (at + 1)) (is_assign (piece_at words (at + 1 + 1))) (subst P place (after_assign words end f)) in
    aux_read words at h.0 (piece.Number h.1) h.2 h.3 ∙ rw (none, h.4, h.5, h.6, place) refl

operand_only : (words : WordsView) (at end : ℕ) (o : OperandView) → IsOperand words at end o → Follows (drop end (symbols_of words)) → aux_value words at ≡ Ok (o, end)
unfolding aux_value
operand_only words at end (Value t) h f =
    rw (no_text words at end t h, value_only words at end t h f) refl
operand_only words at end (Text bytes) h f = rw (h.0, h.1, h.2) refl
operand_only words at end (AxisName name) h f = absurd h

assigned_aux_read : (words : WordsView) (at end : ℕ) (address : List ℕ) (operand : OperandView) → IsAssignedAux words at end address operand → Following words end →
    word_at words at ≡ Ok (Aux address None operand, end)
assigned_aux_read words at end address operand h f =
    let place : at + 1 + 1 ≡ at + 2 = omega arith in
    let P = λ (n : ℕ). IsOperand words n end operand in
    aux_read words at h.0 piece.Assign h.1 h.2
    ∙ rw (operand_only words (at + 1 + 1) end operand (subst P (sym place) h.3) (after_follows words end f), h.4) refl

extended_read : (words : WordsView) (at end : ℕ) (address : List ℕ) (operand : OperandView) → IsExtendedAux words at end address operand → Following words end →
    word_at words at ≡ Ok (Aux address None operand, end)
unfolding numbered_aux has_digits_assign
extended_read words at end address operand h f =
    let place : at + 2 ≡ at + 1 + 1 = omega arith in
    let further : at + 2 + 1 ≡ at + 1 + 2 = omega arith in
    let P = λ (n : ℕ). is_assign (piece_at words n) ≡ true in
    let Q = λ (n : ℕ). IsExpressionText words n end h.1 in
    let all = both (has_digits words (at + 1)) (is_assign (piece_at words (at + 1 + 1))) (digits_only words (at + 1) h.3) (subst P place (ap is_assign h.4.0)) in
    aux_read words at h.0 (piece.Number h.3.0) h.2 h.3.1
    ∙ rw (all, value_only words (at + 1 + 2) end h.1 (subst Q further h.4.1) (after_follows words end f), h.5, h.6) refl

spindle_no_radius : (text : List ℕ) → is_spindle_word text ≡ true → is_word text (codes "CR") ≡ false
unfolding is_spindle_word
spindle_no_radius text h =
    or_cases _ _ h (λ h. or_cases _ _ h (λ h. or_cases _ _ h
    (λ h. other_word text (codes "SPOS") (codes "CR") h refl) (λ h. other_word text (codes "SPOSA") (codes "CR") h refl))
    (λ h. other_word text (codes "LIMS") (codes "CR") h refl)) (λ h. other_word text (codes "SF") (codes "CR") h refl)

bracket_only : (words : WordsView) (at end : ℕ) (i : Option Tree) → IsBracket words at end i → piece_at words end ≡ piece.Assign → bracket_at words at ≡ Ok (i, end)
unfolding bracket_at
bracket_only words at end None h a =
    let P = λ (n : ℕ). piece_at words n ≡ piece.Assign in
    rw (subst P h a) (ap (λ n. Ok (None, n)) (sym h))
bracket_only words at end (Some t) h a = rw (h.1, bracketed_only words at end t h) refl

spindle_read : (words : WordsView) (at end : ℕ) (address : List ℕ) (bracket : Option Tree) (operand : OperandView) → IsSpindleWord words at end address bracket operand →
    Following words end → word_at words at ≡ Ok (Aux address bracket operand, end)
unfolding name_word spindle_at
spindle_read words at end address bracket operand h f =
    name_read words at h.2
    ∙ rw (spindle_no_radius (text_at words at) h.3, h.3, bracket_only words (at + 1) h.0 bracket h.4 h.5.0, assigned_only words h.0 end h.1 h.5 (after_follows words end f), h.6, h.7) refl

pub aux_only : (words : WordsView) (at end : ℕ) (address : List ℕ) (bracket : Option Tree) (operand : OperandView) → IsAux words at end address bracket operand →
    Following words end → word_at words at ≡ Ok (Aux address bracket operand, end)
aux_only words at end address bracket operand h f =
    elim h [
      | inl a ↦ rw a.0 (numbered_read words at end address operand a.1 f)
      | inr b ↦ elim b [
        | inl a ↦ rw a.0 (assigned_aux_read words at end address operand a.1 f)
        | inr c ↦ elim c [
          | inl a ↦ rw a.0 (extended_read words at end address operand a.1 f)
          | inr d ↦ spindle_read words at end address bracket operand d f
        ]
      ]
    ]

pub program_end_read : (words : WordsView) (at end : ℕ) → IsProgramEnd words at end → Following words end → word_at words at ≡ Ok (End, end)
unfolding numbered_aux has_digits_assign
program_end_read words at end h f =
    let place : end ≡ at + 1 + 1 = omega (arith, h.4) in
    let P = λ (n : ℕ). is_assign (piece_at words n) ≡ false in
    let none = last_false (has_digits words (at + 1)) (is_assign (piece_at words (at + 1 + 1))) (subst P place (after_assign words end f)) in
    aux_read words at 77 (piece.Number h.0) (h.1, refl) h.2 ∙ rw (none, h.3, place) refl
