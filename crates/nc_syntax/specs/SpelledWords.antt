-- Law. How the words of a word block are spelled.
use Rattle.std.specs.Prelude.{◌≡◌, ℕ, ℤ, ◌+◌, ◌||◌, ◌⊎◌, IsTrue, IsFalse, List, [], ◌∷◌, Option, Some, None, codes}
use Rattle.block_scanner.specs.WordsView.{WordsView}
use Rattle.word_tables.specs.GroupWords.{word_by_number, word_by_name}
use Rattle.nc_expressions.specs.Tree.{Tree, Number}
use Rattle.nc_blocks.specs.declared.blocks.Measure.{Measure}
use Rattle.nc_blocks.specs.declared.blocks.Measure.TheVariants.{Modal, Absolute, Incremental}
use Rattle.nc_blocks.specs.declared.pieces.Piece.TheVariants as piece
use Rattle.nc_expressions.specs.NameTexts.{upper}
use Rattle.nc_blocks.specs.Pieces.{piece_at, text_at}
use Rattle.nc_blocks.specs.Texts.{text_within_quotes}
use Rattle.nc_blocks.specs.Wording.{is_slot_letter, is_centre_letter, is_aux_letter, is_program_end, is_spindle_word}
use Rattle.nc_forms.specs.Standing.{IsKeyword, IsExpressionText, IsSignedNumber, IsDigits, IsIndex, IsEnclosed, IsBracketed, IsAssigned, IsAxisName}
use Rattle.nc_blocks.specs.Statement.{OperandView, Value, Text, AxisName, WordView, Assign, AssignAt, G, Axis, Radius, Aux, End}

-- a word of a group: G with its number, or its name; 71 is 'G'
abbrev pub IsGroupWord : WordsView → ℕ → ℕ → ℕ → ℕ → Type 0
IsGroupWord words at end group code =
    ((z : ℤ) × (piece_at words at ≡ piece.Letter 71) × (piece_at words (at + 1) ≡ piece.Number z)
    × (word_by_number z ≡ Some (record { group = group; code = code })) × (end ≡ at + 2))
    ⊎ ((piece_at words at ≡ piece.Name) × (word_by_name (text_at words at) ≡ Some (record { group = group; code = code })) × (end ≡ at + 1))

-- what stands after the = of an axis word: an expression, AC ( expr ) or IC ( expr )
abbrev pub IsMeasured : WordsView → ℕ → ℕ → Measure → Tree → Type 0
IsMeasured words at end Modal t = IsExpressionText words at end t
IsMeasured words at end Absolute t = IsKeyword words at (codes "AC") × IsEnclosed words (at + 1) end t
IsMeasured words at end Incremental t = IsKeyword words at (codes "IC") × IsEnclosed words (at + 1) end t

-- X, Y, Z, I, J, K
abbrev pub IsPlainAxis : WordsView → ℕ → ℕ → Type 0
IsPlainAxis words at letter = (piece_at words at ≡ piece.Letter letter) × IsTrue (is_slot_letter letter || is_centre_letter letter)

-- a plain axis with a number or with =, or an axis name with =
abbrev pub IsAxisWord : WordsView → ℕ → ℕ → List ℕ → Measure → Tree → Type 0
IsAxisWord words at end address m t =
    ((letter : ℕ) × (z : ℤ) × IsPlainAxis words at letter × IsSignedNumber words (at + 1) end z
    × (address ≡ letter ∷ []) × (m ≡ Modal) × (t ≡ Number z))
    ⊎ (((letter : ℕ) × IsPlainAxis words at letter × (piece_at words (at + 1) ≡ piece.Assign) × IsMeasured words (at + 2) end m t
    × (address ≡ letter ∷ []))
    ⊎ (IsAxisName words at address × (piece_at words (at + 2) ≡ piece.Assign) × IsMeasured words (at + 3) end m t))

-- M, S, T, D, F, H
abbrev pub IsAuxLetter : WordsView → ℕ → ℕ → Type 0
IsAuxLetter words at letter = (piece_at words at ≡ piece.Letter letter) × IsTrue (is_aux_letter letter)

-- with a number, which does not end the program
abbrev pub IsNumberedAux : WordsView → ℕ → ℕ → List ℕ → OperandView → Type 0
IsNumberedAux words at end address operand =
    (letter : ℕ) × (z : ℤ) × IsAuxLetter words at letter × (piece_at words (at + 1) ≡ piece.Number z) × IsFalse (is_program_end letter z)
    × (address ≡ letter ∷ []) × (operand ≡ Value (Number z)) × (end ≡ at + 2)

-- a value, or a text without its quotes
abbrev pub IsOperand : WordsView → ℕ → ℕ → OperandView → Type 0
IsOperand words at end (Value t) = IsExpressionText words at end t
IsOperand words at end (Text bytes) = (piece_at words at ≡ piece.Text) × (bytes ≡ text_within_quotes (text_at words at)) × (end ≡ at + 1)
IsOperand words at end (AxisName name) = ⊥

-- with = and a value or a text
abbrev pub IsAssignedAux : WordsView → ℕ → ℕ → List ℕ → OperandView → Type 0
IsAssignedAux words at end address operand =
    (letter : ℕ) × IsAuxLetter words at letter × (piece_at words (at + 1) ≡ piece.Assign) × IsOperand words (at + 2) end operand
    × (address ≡ letter ∷ [])

-- with digits, = and a value
abbrev pub IsExtendedAux : WordsView → ℕ → ℕ → List ℕ → OperandView → Type 0
IsExtendedAux words at end address operand =
    (letter : ℕ) × (t : Tree) × IsAuxLetter words at letter × IsDigits words (at + 1) × IsAssigned words (at + 2) end t
    × (address ≡ letter ∷ text_at words (at + 1)) × (operand ≡ Value t)

-- [ expr ], or nothing
abbrev pub IsBracket : WordsView → ℕ → ℕ → Option Tree → Type 0
IsBracket words at end None = end ≡ at
IsBracket words at end (Some t) = IsBracketed words at end t

-- SPOS, SPOSA, LIMS, SF
abbrev pub IsSpindleWord : WordsView → ℕ → ℕ → List ℕ → Option Tree → OperandView → Type 0
IsSpindleWord words at end address bracket operand =
    (middle : ℕ) × (t : Tree) × (piece_at words at ≡ piece.Name) × IsTrue (is_spindle_word (text_at words at))
    × IsBracket words (at + 1) middle bracket × IsAssigned words middle end t
    × (address ≡ upper (text_at words at)) × (operand ≡ Value t)

-- a word that moves nothing
abbrev pub IsAux : WordsView → ℕ → ℕ → List ℕ → Option Tree → OperandView → Type 0
IsAux words at end address bracket operand =
    ((bracket ≡ None) × IsNumberedAux words at end address operand)
    ⊎ (((bracket ≡ None) × IsAssignedAux words at end address operand)
    ⊎ (((bracket ≡ None) × IsExtendedAux words at end address operand)
    ⊎ IsSpindleWord words at end address bracket operand))

-- M2, M30, M17; 77 is 'M'
abbrev pub IsProgramEnd : WordsView → ℕ → ℕ → Type 0
IsProgramEnd words at end =
    (z : ℤ) × (piece_at words at ≡ piece.Letter 77) × (piece_at words (at + 1) ≡ piece.Number z) × IsTrue (is_program_end 77 z) × (end ≡ at + 2)

-- a word; 82 is 'R'
abbrev pub IsWord : WordsView → ℕ → ℕ → WordView → Type 0
IsWord words at end (Assign i t) = (piece_at words at ≡ piece.Letter 82) × IsIndex words (at + 1) i × IsAssigned words (at + 2) end t
IsWord words at end (AssignAt i t) =
    (middle : ℕ) × (piece_at words at ≡ piece.Letter 82) × IsBracketed words (at + 1) middle i × IsAssigned words middle end t
IsWord words at end (G group code) = IsGroupWord words at end group code
IsWord words at end (Axis address m t) = IsAxisWord words at end address m t
IsWord words at end (Radius t) = IsKeyword words at (codes "CR") × IsAssigned words (at + 1) end t
IsWord words at end (Aux address bracket operand) = IsAux words at end address bracket operand
IsWord words at end End = IsProgramEnd words at end
