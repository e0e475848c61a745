-- Meaning. Jumps, IF and CASE.
use Rattle.std.specs.Prelude.{ℕ, ℤ, ◌+◌, ◌==◌, Bool, true, false, List, Option, Some, None, Result, Ok, Err, if◌then◌else◌, codes}
use Rattle.block_scanner.specs.WordsView.{WordsView}
use Rattle.nc_expressions.specs.Symbols.{is_word}
use Rattle.nc_expressions.specs.Tree.{Tree}
use Rattle.nc_blocks.specs.declared.blocks.JumpTo.{JumpTo}
use Rattle.nc_blocks.specs.declared.blocks.Target.{Target}
use Rattle.nc_blocks.specs.declared.blocks.Target.TheVariants as target
use Rattle.nc_blocks.specs.declared.blocks.Way.{Way}
use Rattle.nc_blocks.specs.declared.blocks.Way.TheVariants.{Forward, Backward, Either, Optional}
use Rattle.nc_blocks.specs.declared.pieces.Piece.{Piece}
use Rattle.nc_blocks.specs.declared.pieces.Piece.TheVariants as piece
use Rattle.nc_expressions.specs.NameTexts.{name_of}
use Rattle.nc_blocks.specs.Pieces.{piece_at, text_at}
use Rattle.nc_blocks.specs.Marks.{end_at, open_at, close_at, is_keyword, keyword_at}
use Rattle.nc_expressions.specs.Value.{◌>>=◌}
use Rattle.nc_blocks.specs.Reading.{expression_at, constant_at, block_number_at}
use Rattle.nc_blocks.specs.Lists.{Item, list_at}
use Rattle.nc_blocks.specs.Statement.{Statement, Jump, IfJump, If, Case}

unfoldable pub way_of : List ℕ → Option Way
way_of text =
    if is_word text (codes "GOTOF") then Some Forward
    else if is_word text (codes "GOTOB") then Some Backward
    else if is_word text (codes "GOTO") then Some Either
    else if is_word text (codes "GOTOC") then Some Optional
    else None

abbrev pub way_of_piece : Piece → List ℕ → Option Way
way_of_piece piece.Name text = way_of text
way_of_piece one text = None

-- how a jump that begins there searches
unfoldable pub way_at : WordsView → ℕ → Option Way
way_at words at = way_of_piece (piece_at words at) (text_at words at)

abbrev pub is_n : Piece → Bool
is_n (piece.Letter b) = b == 78
is_n one = false

-- a name, or N with one to eight digits, and the place after it
abbrev pub target_of : WordsView → ℕ → Piece → Result (Target × ℕ) ℕ
target_of words at piece.Name = Ok (target.Label (name_of (text_at words at)), at + 1)
target_of words at one = if is_n one then (block_number_at words (at + 1) >>= λ n. Ok (target.Number n, at + 2)) else Err 22

unfoldable pub target_at : WordsView → ℕ → Result (Target × ℕ) ℕ
target_at words at = target_of words at (piece_at words at)

-- a jump with its target at a place
unfoldable pub jump_at : WordsView → Way → ℕ → Result (JumpTo × ℕ) ℕ
jump_at words way at = do
  p ← target_at words at
  Ok (record { way = way; target = p.0 }, p.1)

-- a jump with its target at a place, where nothing stands after it
unfoldable pub last_jump : WordsView → Way → ℕ → Result JumpTo ℕ
last_jump words way at = do
  p ← jump_at words way at
  end ← end_at words p.1
  Ok p.0

abbrev pub if_after : WordsView → Tree → ℕ → Option Way → Result Statement ℕ
if_after words t at (Some way) = last_jump words way (at + 1) >>= λ jump. Ok (IfJump t jump)
if_after words t at None = end_at words at >>= λ end. Ok (If t)

-- IF, after its name: with a jump or without one
unfoldable pub if_form : WordsView → ℕ → Result Statement ℕ
if_form words at = expression_at words at >>= λ p. if_after words p.0 p.1 (way_at words p.1)

-- a jump, after its name
unfoldable pub jump_form : WordsView → Way → ℕ → Result Statement ℕ
jump_form words way at = last_jump words way at >>= λ jump. Ok (Jump jump)

-- ) OF, and the place after
unfoldable pub case_names : WordsView → ℕ → Result ℕ ℕ
case_names words at = close_at words at 22 >>= λ closed. keyword_at words closed (codes "OF")

-- ( expr ) OF
unfoldable pub case_value : WordsView → ℕ → Result (Tree × ℕ) ℕ
case_value words at = do
  first ← open_at words at 22
  p ← expression_at words first
  following ← case_names words p.1
  Ok (p.0, following)

abbrev pub begins_number : Piece → Bool
begins_number (piece.Number z) = true
begins_number piece.Plus = true
begins_number piece.Minus = true
begins_number one = false

abbrev pub jump_of : WordsView → Option Way → ℕ → Result (JumpTo × ℕ) ℕ
jump_of words (Some way) at = jump_at words way at
jump_of words None at = Err 22

-- a jump from its name on, and the place after it
unfoldable pub named_jump : WordsView → ℕ → Result (JumpTo × ℕ) ℕ
named_jump words at = jump_of words (way_at words at) (at + 1)

-- a number, signed or not, and a jump, and whether another pair follows
unfoldable pub pair_at : WordsView → ℕ → Result (Item (ℤ × JumpTo)) ℕ
pair_at words at = do
  z ← constant_at words at 22
  jump ← named_jump words z.1
  Ok ((z.0, jump.0), begins_number (piece_at words jump.1), jump.1)

-- DEFAULT and its jump, if they stand there, after which nothing stands
unfoldable pub default_at : WordsView → ℕ → Result (Option JumpTo) ℕ
default_at words at =
    if is_keyword words at (codes "DEFAULT")
    then (named_jump words (at + 1) >>= λ jump. end_at words jump.1 >>= λ end. Ok (Some jump.0))
    else (end_at words at >>= λ end. Ok None)

-- CASE, after its name
unfoldable pub case_form : WordsView → ℕ → Result Statement ℕ
case_form words at = do
  value ← case_value words at
  pairs ← list_at (λ before. pair_at words) words value.1
  other ← default_at words pairs.1
  Ok (Case value.0 pairs.0 other)
