-- Meaning. The block that a line says, or its refusal.
use Rattle.std.specs.Prelude.{ℕ, ◌+◌, ◌&&◌, Bool, true, false, List, Option, Some, None, Result, Ok, Err, if◌then◌else◌}
use Rattle.block_scanner.specs.WordsView.{WordsView}
use Rattle.word_tables.specs.Refused.{refused_word}
use Rattle.word_tables.specs.LargeNumbers.{has_large_number}
use Rattle.nc_blocks.specs.declared.pieces.Piece.{Piece}
use Rattle.nc_blocks.specs.declared.pieces.Piece.TheVariants as piece
use Rattle.nc_expressions.specs.NameTexts.{name_of}
use Rattle.nc_blocks.specs.Pieces.{piece_at, text_at, is_name}
use Rattle.nc_expressions.specs.Value.{◌>>=◌}
use Rattle.nc_blocks.specs.Reading.{block_number_at}
use Rattle.nc_syntax.specs.Structures.{is_letter}
use Rattle.nc_syntax.specs.Bodies.{is_number, body_at}
use Rattle.nc_blocks.specs.Statement.{BlockView}

abbrev pub is_slash : Piece → Bool
is_slash piece.Slash = true
is_slash one = false

abbrev pub is_colon : Piece → Bool
is_colon piece.Colon = true
is_colon one = false

-- whether `/` begins the line, and the place after it; a number there is 59
unfoldable pub skip_of : WordsView → Result (Bool × ℕ) ℕ
skip_of words =
    if is_slash (piece_at words 0) then (if is_number (piece_at words 1) then Err 59 else Ok (true, 1)) else Ok (false, 0)

unfoldable pub has_number : WordsView → ℕ → Bool
has_number words at = is_letter (piece_at words at) 78 && is_number (piece_at words (at + 1))

-- N with a number, if they stand there, and the place after; 78 is 'N'
unfoldable pub number_at : WordsView → ℕ → Result (Option ℕ × ℕ) ℕ
number_at words at =
    if has_number words at
    then (block_number_at words (at + 1) >>= λ n. Ok (Some n, at + 2))
    else Ok (None, at)

-- a name and :, if they stand there, and the place after
unfoldable pub label_at : WordsView → ℕ → Option (List ℕ) × ℕ
label_at words at =
    if is_name (piece_at words at) && is_colon (piece_at words (at + 1)) then (Some (name_of (text_at words at)), at + 2) else (None, at)

-- what stands before the label, and the place after it
unfoldable pub head_of : WordsView → Result (Bool × Option ℕ × ℕ) ℕ
head_of words = do
  skip ← skip_of words
  number ← number_at words skip.1
  Ok (skip.0, number.0, number.1)

abbrev pub with_label : WordsView → Bool × Option ℕ × ℕ → Option (List ℕ) × ℕ → Result BlockView ℕ
with_label words head label =
    body_at words label.1 >>= λ s. Ok (record { skip = head.0; number = head.1; label = label.0; statement = s })

-- the block that the tokens of a line spell, or the refusal of the leftmost place at which they go on to no form
unfoldable pub block_of : WordsView → Result BlockView ℕ
block_of words = head_of words >>= λ head. with_label words head (label_at words head.2)

abbrev pub unless_refused : Option ℕ → Bool → Result BlockView ℕ → Result BlockView ℕ
unless_refused (Some code) large read = Err code
unless_refused None true read = Err 21
unless_refused None false read = read

-- the leftmost refused word comes first, then a number out of range, then the form
unfoldable pub statement_of : WordsView → Bool → Result BlockView ℕ
statement_of words compensation =
    unless_refused (refused_word compensation words.line words.tokens)
    (has_large_number words.line words.tokens) (block_of words)
