-- Meaning. The words of a word block.
use Rattle.std.specs.Prelude.{ℕ, ℤ, pos, ◌+◌, ◌==◌, ◌&&◌, ◌||◌, not, Bool, true, false, List, [], ◌∷◌, Option, Some, None, Result, Ok, Err, if◌then◌else◌, codes}
use Rattle.std.specs.Ordering.{int_eq}
use Rattle.block_scanner.specs.WordsView.{WordsView}
use Rattle.g_groups.specs.declared.GWord.{GWord}
use Rattle.word_tables.specs.GroupWords.{word_by_number, word_by_name}
use Rattle.name_tables.specs.Tables.{is_first_name}
use Rattle.nc_expressions.specs.Symbols.{is_word}
use Rattle.nc_expressions.specs.Tree.{Tree, Number}
use Rattle.nc_blocks.specs.declared.blocks.Measure.{Measure}
use Rattle.nc_blocks.specs.declared.blocks.Measure.TheVariants.{Modal, Absolute, Incremental}
use Rattle.nc_blocks.specs.declared.pieces.Piece.{Piece}
use Rattle.nc_blocks.specs.declared.pieces.Piece.TheVariants as piece
use Rattle.nc_expressions.specs.NameTexts.{upper}
use Rattle.nc_blocks.specs.Pieces.{piece_at, text_at, is_text, is_assign, is_end}
use Rattle.nc_blocks.specs.Marks.{word_code, assign_at, open_at, close_at, close_bracket_at, is_keyword}
use Rattle.nc_expressions.specs.Value.{◌>>=◌}
use Rattle.nc_blocks.specs.Reading.{value_at, after_sign, constant_at, index_at}
use Rattle.nc_blocks.specs.Lists.{Item, list_at}
use Rattle.nc_blocks.specs.AxisNames.{is_axis_letter, has_digits, has_axis_name, has_axis_word}
use Rattle.nc_blocks.specs.Texts.{text_within_quotes}
use Rattle.nc_blocks.specs.Statement.{Statement, WordBlock, WordView, Assign, AssignAt, G, Axis, Radius, Aux, End, OperandView, Value, Text}

-- = and an expression
unfoldable pub assigned_at : WordsView → ℕ → Result (Tree × ℕ) ℕ
assigned_at words at = assign_at words at (word_code words at) >>= λ following. value_at words following

-- [ expr ]
unfoldable pub bracketed_at : WordsView → ℕ → Result (Tree × ℕ) ℕ
bracketed_at words at = do
  p ← value_at words (at + 1)
  following ← close_bracket_at words p.1 (word_code words p.1)
  Ok (p.0, following)

abbrev pub is_open_bracket : Piece → Bool
is_open_bracket piece.OpenBracket = true
is_open_bracket one = false

-- an assignment to a parameter, after its R
unfoldable pub assignment_at : WordsView → ℕ → Result (WordView × ℕ) ℕ
assignment_at words at =
    if is_open_bracket (piece_at words at)
    then (bracketed_at words at >>= λ i. assigned_at words i.1 >>= λ p. Ok (AssignAt i.0 p.0, p.1))
    else (index_at words at (word_code words at) >>= λ i. assigned_at words (at + 1) >>= λ p. Ok (Assign i p.0, p.1))

-- a word of a group, or the refusal where it is none
abbrev pub group_word : Option GWord → ℕ → ℕ → Result (WordView × ℕ) ℕ
group_word (Some w) next code = Ok (G w.group w.code, next)
group_word None next code = Err code

abbrev pub g_of_piece : Piece → ℕ → ℕ → Result (WordView × ℕ) ℕ
g_of_piece (piece.Number z) next code = group_word (word_by_number z) next 57
g_of_piece one next code = Err code

-- a word G, after its letter
unfoldable pub g_at : WordsView → ℕ → Result (WordView × ℕ) ℕ
g_at words at = g_of_piece (piece_at words at) (at + 1) (word_code words at)

-- ( expr )
unfoldable pub enclosed_value : WordsView → ℕ → Result (Tree × ℕ) ℕ
enclosed_value words at = do
  first ← open_at words at (word_code words at)
  p ← value_at words first
  following ← close_at words p.1 (word_code words p.1)
  Ok (p.0, following)

abbrev pub measure_and_value : Measure → Tree × ℕ → Result (Measure × Tree × ℕ) ℕ
measure_and_value m p = Ok (m, p.0, p.1)

-- after the = of an axis word: AC ( expr ), IC ( expr ) or an expression
unfoldable pub measured_at : WordsView → ℕ → Result (Measure × Tree × ℕ) ℕ
measured_at words at =
    if is_keyword words at (codes "AC") then (enclosed_value words (at + 1) >>= measure_and_value Absolute)
    else if is_keyword words at (codes "IC") then (enclosed_value words (at + 1) >>= measure_and_value Incremental)
    else (value_at words at >>= measure_and_value Modal)

-- an axis word with =, of this address
unfoldable pub measured_word : WordsView → List ℕ → ℕ → Result (WordView × ℕ) ℕ
measured_word words address at = measured_at words at >>= λ p. Ok (Axis address p.0 p.1, p.2)

-- a letter of an axis or a centre, with its value after it: = and so on, or a number with its sign
unfoldable pub letter_word : WordsView → ℕ → ℕ → Result (WordView × ℕ) ℕ
letter_word words letter at =
    if is_assign (piece_at words at) then measured_word words (letter ∷ []) (at + 1)
    else (constant_at words at (word_code words (after_sign words at)) >>= λ p. Ok (Axis (letter ∷ []) Modal (Number p.0), p.1))

-- an axis name and = after it
unfoldable pub axis_word_at : WordsView → ℕ → ℕ → Result (WordView × ℕ) ℕ
axis_word_at words letter at = measured_word words (letter ∷ text_at words (at + 1)) (at + 3)

-- X, Y or Z: an axis name, or the letter alone
unfoldable pub slot_word_at : WordsView → ℕ → ℕ → Result (WordView × ℕ) ℕ
slot_word_at words letter at = if has_axis_word words at then axis_word_at words letter at else letter_word words letter (at + 1)

-- another letter of axes: with digits and = only
unfoldable pub other_axis_at : WordsView → ℕ → ℕ → Result (WordView × ℕ) ℕ
other_axis_at words letter at =
    if has_axis_word words at then axis_word_at words letter at
    else if has_axis_name words at then Err (word_code words (at + 2))
    else Err 27

-- M2, M30 and M17; 77 is 'M'
abbrev pub is_program_end : ℕ → ℤ → Bool
is_program_end letter z = (letter == 77) && (int_eq z (pos 2000000) || int_eq z (pos 30000000) || int_eq z (pos 17000000))

abbrev pub plain_aux : ℕ → ℤ → WordView
plain_aux letter z = if is_program_end letter z then End else Aux (letter ∷ []) None (Value (Number z))

-- an expression or a text after =
unfoldable pub aux_value : WordsView → ℕ → Result (OperandView × ℕ) ℕ
aux_value words at =
    if is_text (piece_at words at) then Ok (Text (text_within_quotes (text_at words at)), at + 1)
    else (value_at words at >>= λ p. Ok (Value p.0, p.1))

unfoldable pub has_digits_assign : WordsView → ℕ → Bool
has_digits_assign words at = has_digits words at && is_assign (piece_at words (at + 1))

-- M, S, T, D, F or H with a number, or with digits, = and an expression
unfoldable pub numbered_aux : WordsView → ℕ → ℤ → ℕ → Result (WordView × ℕ) ℕ
numbered_aux words letter z at =
    if has_digits_assign words at
    then (value_at words (at + 2) >>= λ p. Ok (Aux (letter ∷ text_at words at) None (Value p.0), p.1))
    else Ok (plain_aux letter z, at + 1)

abbrev pub aux_of : WordsView → ℕ → ℕ → Piece → Result (WordView × ℕ) ℕ
aux_of words letter at (piece.Number z) = numbered_aux words letter z at
aux_of words letter at one =
    if is_assign one then (aux_value words (at + 1) >>= λ p. Ok (Aux (letter ∷ []) None p.0, p.1)) else Err (word_code words at)

-- M, S, T, D, F or H, after the letter
unfoldable pub aux_at : WordsView → ℕ → ℕ → Result (WordView × ℕ) ℕ
aux_at words letter at = aux_of words letter at (piece_at words at)

-- [ expr ], if it stands there, and the place after
unfoldable pub bracket_at : WordsView → ℕ → Result (Option Tree × ℕ) ℕ
bracket_at words at =
    if is_open_bracket (piece_at words at) then (bracketed_at words at >>= λ p. Ok (Some p.0, p.1)) else Ok (None, at)

-- SPOS, SPOSA, LIMS and SF, after the name
unfoldable pub spindle_at : WordsView → List ℕ → ℕ → Result (WordView × ℕ) ℕ
spindle_at words text at = bracket_at words at >>= λ i. assigned_at words i.1 >>= λ p. Ok (Aux (upper text) i.0 (Value p.0), p.1)

unfoldable pub is_spindle_word : List ℕ → Bool
is_spindle_word text =
    is_word text (codes "SPOS") || is_word text (codes "SPOSA") || is_word text (codes "LIMS") || is_word text (codes "SF")

-- the refusal of a name that begins no word
abbrev pub name_code : List ℕ → ℕ
name_code text = if is_first_name text then 24 else 27

-- a word that is a name of this text, after it
unfoldable pub name_word : WordsView → List ℕ → ℕ → Result (WordView × ℕ) ℕ
name_word words text at =
    if is_word text (codes "CR") then (assigned_at words at >>= λ p. Ok (Radius p.0, p.1))
    else if is_spindle_word text then spindle_at words text at
    else group_word (word_by_name text) at (name_code text)

-- 73, 74, 75 are 'I', 'J', 'K'
abbrev pub is_centre_letter : ℕ → Bool
is_centre_letter b = (b == 73) || (b == 74) || (b == 75)

abbrev pub is_slot_letter : ℕ → Bool
is_slot_letter b = (b == 88) || (b == 89) || (b == 90)

-- M, S, T, D, F, H
abbrev pub is_aux_letter : ℕ → Bool
is_aux_letter b = (b == 77) || (b == 83) || (b == 84) || (b == 68) || (b == 70) || (b == 72)

-- a word that begins with a letter; 82 is 'R', 71 is 'G'
unfoldable pub lettered_word : WordsView → ℕ → ℕ → Result (WordView × ℕ) ℕ
lettered_word words letter at =
    if letter == 82 then assignment_at words (at + 1)
    else if letter == 71 then g_at words (at + 1)
    else if is_slot_letter letter then slot_word_at words letter at
    else if is_centre_letter letter then letter_word words letter (at + 1)
    else if is_aux_letter letter then aux_at words letter (at + 1)
    else if is_axis_letter letter then other_axis_at words letter at
    else Err 27

abbrev pub word_of_piece : WordsView → ℕ → Piece → Result (WordView × ℕ) ℕ
word_of_piece words at (piece.Letter b) = lettered_word words b at
word_of_piece words at piece.Name = name_word words (text_at words at) (at + 1)
word_of_piece words at one = Err 22

-- the word at a place, and the place after it
unfoldable pub word_at : WordsView → ℕ → Result (WordView × ℕ) ℕ
word_at words at = word_of_piece words at (piece_at words at)

-- the same, and whether another one follows
unfoldable pub word_item_at : WordsView → ℕ → Result (Item WordView) ℕ
word_item_at words at = word_at words at >>= λ p. Ok (p.0, not (is_end (piece_at words p.1)), p.1)

-- a word block
unfoldable pub words_form : WordsView → ℕ → Result Statement ℕ
words_form words at = list_at (λ before. word_item_at words) words at >>= λ p. Ok (WordBlock p.0)
