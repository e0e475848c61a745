-- Meaning. Frames.
use Rattle.std.specs.Prelude.{ℕ, ◌+◌, ◌==◌, ◌||◌, not, Bool, false, List, [], Option, Some, None, Result, Ok, Err, if◌then◌else◌, codes}
use Rattle.std.specs.List.{list_any}
use Rattle.block_scanner.specs.WordsView.{WordsView}
use Rattle.nc_expressions.specs.Tree.{Tree, Number}
use Rattle.nc_blocks.specs.declared.blocks.FrameWord.{FrameWord}
use Rattle.nc_blocks.specs.declared.pieces.Piece.{Piece}
use Rattle.nc_blocks.specs.declared.pieces.Piece.TheVariants as piece
use Rattle.nc_blocks.specs.Pieces.{piece_at, is_assign, is_end}
use Rattle.nc_blocks.specs.AxisNames.{has_axis_word}
use Rattle.nc_blocks.specs.Marks.{code_at, end_at, assign_at, is_keyword}
use Rattle.nc_expressions.specs.Value.{◌>>=◌}
use Rattle.nc_blocks.specs.Reading.{expression_at, constant_at}
use Rattle.nc_blocks.specs.Lists.{Item, list_at}
use Rattle.nc_blocks.specs.Statement.{Statement, Shape, Turn}

-- the workpiece axis of a letter: 0, 1, 2 for X, Y, Z; 88 is 'X'
abbrev pub axis_of : Piece → Option ℕ
axis_of (piece.Letter b) = if b == 88 then Some 0 else if b == 89 then Some 1 else if b == 90 then Some 2 else None
axis_of one = None

-- X, Y or Z
abbrev pub is_slot : Piece → Bool
is_slot (piece.Letter b) = (b == 88) || (b == 89) || (b == 90)
is_slot one = false

-- `=` and an expression, or a number with its sign
unfoldable pub frame_value : WordsView → ℕ → Result (Tree × ℕ) ℕ
frame_value words at =
    if is_assign (piece_at words at) then expression_at words (at + 1)
    else (constant_at words at 22 >>= λ p. Ok (Number p.0, p.1))

-- this axis is among those that came before
abbrev pub has_axis : List (ℕ × Tree) → ℕ → Bool
has_axis before axis = list_any (λ p. p.0 == axis) before

abbrev pub frame_word : WordsView → List (ℕ × Tree) → ℕ → Option ℕ → Result (Item (ℕ × Tree)) ℕ
frame_word words before at None = Err (code_at words at 24)
frame_word words before at (Some axis) =
    if has_axis before axis then Err 22
    else (frame_value words (at + 1) >>= λ p. Ok ((axis, p.0), not (is_end (piece_at words p.1)), p.1))

-- X, Y or Z with a value, and whether another word follows; each at most once
unfoldable pub frame_word_at : WordsView → List (ℕ × Tree) → ℕ → Result (Item (ℕ × Tree)) ℕ
frame_word_at words before at = frame_word words before at (axis_of (piece_at words at))

-- a frame word, after its name
unfoldable pub shape_form : WordsView → FrameWord → ℕ → Result Statement ℕ
shape_form words which at =
    if is_end (piece_at words at) then Ok (Shape which [])
    else (list_at (frame_word_at words) words at >>= λ p. Ok (Shape which p.0))

-- after ROT and AROT: an axis word is 50, all else is 24
unfoldable pub turn_end : WordsView → ℕ → Result ℕ ℕ
turn_end words at =
    if is_slot (piece_at words at) || has_axis_word words at then Err 50 else end_at words at

-- RPL=expr, or nothing
unfoldable pub angle_at : WordsView → ℕ → Result (Option Tree × ℕ) ℕ
angle_at words at =
    if is_keyword words at (codes "RPL")
    then (assign_at words (at + 1) 22 >>= λ following. expression_at words following >>= λ p. Ok (Some p.0, p.1))
    else Ok (None, at)

-- ROT or AROT, after its name
unfoldable pub turn_form : WordsView → Bool → ℕ → Result Statement ℕ
turn_form words more at = do
  angle ← angle_at words at
  end ← turn_end words angle.1
  Ok (Turn more angle.0)
