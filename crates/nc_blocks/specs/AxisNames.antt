-- Meaning. Axis names: the letter of an axis, and digits; and the letters of slots.
use Rattle.std.specs.Prelude.{ℕ, ◌+◌, ◌==◌, ◌&&◌, ◌||◌, Bool, false, if◌then◌else◌, List, codes, Option, Some, None}
use Rattle.std.specs.Str.{bytes_eq}
use Rattle.block_scanner.specs.WordsView.{WordsView}
use Rattle.nc_expressions.specs.Symbols.{is_digits}
use Rattle.nc_blocks.specs.declared.pieces.Piece.{Piece}
use Rattle.nc_blocks.specs.declared.pieces.Piece.TheVariants as piece
use Rattle.nc_blocks.specs.Pieces.{piece_at, text_at, is_assign}

-- the letters of axes: A, B, C, U, V, W, X, Y, Z
abbrev pub is_axis_letter : ℕ → Bool
is_axis_letter b =
    (b == 65) || (b == 66) || (b == 67) || (b == 85) || (b == 86) || (b == 87) || (b == 88) || (b == 89) || (b == 90)

abbrev pub is_axis_start : Piece → Bool
is_axis_start (piece.Letter b) = is_axis_letter b
is_axis_start one = false

abbrev pub is_digits_piece : Piece → List ℕ → Bool
is_digits_piece (piece.Number z) text = is_digits text
is_digits_piece one text = false

-- a number of digits alone stands there
unfoldable pub has_digits : WordsView → ℕ → Bool
has_digits words at = is_digits_piece (piece_at words at) (text_at words at)

-- an axis name: a letter of an axis, and digits
unfoldable pub has_axis_name : WordsView → ℕ → Bool
has_axis_name words at = is_axis_start (piece_at words at) && has_digits words (at + 1)

-- an axis name and =
unfoldable pub has_axis_word : WordsView → ℕ → Bool
has_axis_word words at = has_axis_name words at && is_assign (piece_at words (at + 2))

-- the slot of a geometry axis with this letter
abbrev pub slot_named : List ℕ → Option ℕ
slot_named name =
    if bytes_eq name (codes "X") then Some 0
    else if bytes_eq name (codes "Y") then Some 1
    else if bytes_eq name (codes "Z") then Some 2
    else None
