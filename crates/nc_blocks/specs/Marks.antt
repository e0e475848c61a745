-- Meaning. Signs and names that a form wants at a place, and what comes at its end.
use Rattle.std.specs.Prelude.{ℕ, ◌+◌, Bool, ◌&&◌, List, Result, Ok, Err, if◌then◌else◌}
use Rattle.block_scanner.specs.WordsView.{WordsView}
use Rattle.name_tables.specs.Tables.{is_first_name}
use Rattle.nc_expressions.specs.Symbols.{is_word}
use Rattle.nc_blocks.specs.declared.pieces.Piece.{Piece}
use Rattle.nc_blocks.specs.declared.pieces.Piece.TheVariants as piece
use Rattle.nc_blocks.specs.Pieces.{piece_at, text_at, is_name}

-- the refusal of what no form takes: what fits none is 22 everywhere
abbrev pub code_of : Piece → ℕ → ℕ
code_of piece.Broken code = 22
code_of one code = code

unfoldable pub code_at : WordsView → ℕ → ℕ → ℕ
code_at words at code = code_of (piece_at words at) code

abbrev pub word_code_of : Piece → List ℕ → ℕ
word_code_of piece.Name text = if is_first_name text then 24 else 22
word_code_of one text = 22

-- the refusal of what no word block takes: the first name of another form is 24
unfoldable pub word_code : WordsView → ℕ → ℕ
word_code words at = word_code_of (piece_at words at) (text_at words at)

abbrev pub end_or_refusal : Piece → Result ℕ ℕ
end_or_refusal piece.End = Ok 0
end_or_refusal one = Err (code_of one 24)

-- a form is over, and nothing stands after it
unfoldable pub end_at : WordsView → ℕ → Result ℕ ℕ
end_at words at = end_or_refusal (piece_at words at)

abbrev pub assign_of : Piece → ℕ → ℕ → Result ℕ ℕ
assign_of piece.Assign next code = Ok next
assign_of one next code = Err code

-- the place after `=`, or this refusal
unfoldable pub assign_at : WordsView → ℕ → ℕ → Result ℕ ℕ
assign_at words at code = assign_of (piece_at words at) (at + 1) code

abbrev pub open_of : Piece → ℕ → ℕ → Result ℕ ℕ
open_of piece.Open next code = Ok next
open_of one next code = Err code

-- the same of `(`, `)`, `]` and `,`
unfoldable pub open_at : WordsView → ℕ → ℕ → Result ℕ ℕ
open_at words at code = open_of (piece_at words at) (at + 1) code

abbrev pub close_of : Piece → ℕ → ℕ → Result ℕ ℕ
close_of piece.Close next code = Ok next
close_of one next code = Err code

unfoldable pub close_at : WordsView → ℕ → ℕ → Result ℕ ℕ
close_at words at code = close_of (piece_at words at) (at + 1) code

abbrev pub close_bracket_of : Piece → ℕ → ℕ → Result ℕ ℕ
close_bracket_of piece.CloseBracket next code = Ok next
close_bracket_of one next code = Err code

unfoldable pub close_bracket_at : WordsView → ℕ → ℕ → Result ℕ ℕ
close_bracket_at words at code = close_bracket_of (piece_at words at) (at + 1) code

abbrev pub comma_of : Piece → ℕ → Result ℕ ℕ
comma_of piece.Comma next = Ok next
comma_of one next = Err 22

unfoldable pub comma_at : WordsView → ℕ → Result ℕ ℕ
comma_at words at = comma_of (piece_at words at) (at + 1)

-- this name stands there
unfoldable pub is_keyword : WordsView → ℕ → List ℕ → Bool
is_keyword words at word = is_name (piece_at words at) && is_word (text_at words at) word

-- the place after this name
unfoldable pub keyword_at : WordsView → ℕ → List ℕ → Result ℕ ℕ
keyword_at words at word = if is_keyword words at word then Ok (at + 1) else Err 22
