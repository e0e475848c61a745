-- Meaning. Loops, repetitions, calls and what stands alone.
use Rattle.std.specs.Prelude.{ℕ, ℤ, pos, negsuc, ◌+◌, ◌/◌, ◌%◌, ◌==◌, ◌&&◌, nat_le, Bool, false, List, ◌∷◌, length, Option, Some, None, Result, Ok, Err, if◌then◌else◌, codes}
use Rattle.std.specs.List.{list_any}
use Rattle.block_scanner.specs.WordsView.{WordsView}
use Rattle.nc_expressions.specs.Symbols.{is_digits}
use Rattle.nc_expressions.specs.Tree.{Tree}
use Rattle.nc_blocks.specs.declared.pieces.Piece.{Piece}
use Rattle.nc_blocks.specs.declared.pieces.Piece.TheVariants as piece
use Rattle.nc_expressions.specs.NameTexts.{name_of}
use Rattle.nc_blocks.specs.Pieces.{piece_at, text_at, is_name}
use Rattle.nc_blocks.specs.Marks.{code_at, end_at, assign_at, is_keyword, keyword_at}
use Rattle.nc_expressions.specs.Value.{◌>>=◌}
use Rattle.nc_blocks.specs.Reading.{expression_at, index_at, label_at}
use Rattle.nc_blocks.specs.Statement.{Statement, For, RepeatFrom, RepeatBlock, Repeat, Call, Proc}
use Rattle.nc_forms.specs.LineEnds.{statement_alone}
use Rattle.nc_forms.specs.Parentheses.{is_close, is_close_kind, is_open}

-- an expression after which nothing stands
unfoldable pub last_expression : WordsView → ℕ → Result Tree ℕ
last_expression words at = do
  p ← expression_at words at
  end ← end_at words p.1
  Ok p.0

abbrev pub is_letter : Piece → ℕ → Bool
is_letter (piece.Letter b) letter = b == letter
is_letter one letter = false

-- R digits =, and the place after it; 82 is 'R'
unfoldable pub counter_at : WordsView → ℕ → Result (ℕ × ℕ) ℕ
counter_at words at =
    if is_letter (piece_at words at) 82
    then (index_at words (at + 1) 22 >>= λ i. assign_at words (at + 2) 22 >>= λ following. Ok (i, following))
    else Err 22

-- an expression and TO, and the place after
unfoldable pub first_value : WordsView → ℕ → Result (Tree × ℕ) ℕ
first_value words at = do
  p ← expression_at words at
  following ← keyword_at words p.1 (codes "TO")
  Ok (p.0, following)

-- FOR, after its name
unfoldable pub for_form : WordsView → ℕ → Result Statement ℕ
for_form words at = do
  counter ← counter_at words at
  first ← first_value words counter.1
  last ← last_expression words first.1
  Ok (For counter.0 first.0 last)

-- P=expr, or nothing, after which nothing stands; 80 is 'P'
unfoldable pub times_at : WordsView → ℕ → Result (Option Tree) ℕ
times_at words at =
    if is_letter (piece_at words at) 80
    then (assign_at words (at + 1) 22 >>= λ following. last_expression words following >>= λ t. Ok (Some t))
    else end_at words at >>= λ end. Ok None

-- REPEAT, after its name: with a label, or of a loop
unfoldable pub repeat_form : WordsView → ℕ → Result Statement ℕ
repeat_form words at =
    if is_name (piece_at words at)
    then (times_at words (at + 1) >>= λ times. Ok (RepeatFrom (name_of (text_at words at)) times))
    else statement_alone words at Repeat

-- REPEATB, after its name
unfoldable pub repeat_block_form : WordsView → ℕ → Result Statement ℕ
repeat_block_form words at = do
  label ← label_at words at
  times ← times_at words (at + 1)
  Ok (RepeatBlock label times)

-- some `)` stands in the line
unfoldable pub has_close : WordsView → Bool
has_close words = list_any (λ token. is_close_kind token.kind) words.tokens

-- ( ) after a call, if they stand there, and the place after; anything between them is 58
unfoldable pub parentheses_at : WordsView → ℕ → Result ℕ ℕ
parentheses_at words at =
    if is_open (piece_at words at)
    then (if is_close (piece_at words (at + 1)) then Ok (at + 2) else if has_close words then Err (code_at words (at + 1) 58) else Err 22)
    else Ok at

-- how often a program is called: a whole number 1 to 9999
unfoldable pub pass_count : ℤ → Result ℕ ℕ
pass_count (pos n) = if n % 1000000 == 0 && nat_le 1000000 n && nat_le n 9999000000 then Ok (n / 1000000) else Err 22
pass_count (negsuc n) = Err 22

abbrev pub count_of_piece : Piece → Result ℕ ℕ
count_of_piece (piece.Number z) = pass_count z
count_of_piece one = Err 22

-- P with a number after a call, or 1, after which nothing stands
unfoldable pub passes_at : WordsView → ℕ → Result ℕ ℕ
passes_at words at =
    if is_letter (piece_at words at) 80
    then (count_of_piece (piece_at words (at + 1)) >>= λ n. end_at words (at + 2) >>= λ end. Ok n)
    else end_at words at >>= λ end. Ok 1

-- how often a program is called, after its name
unfoldable pub call_passes : WordsView → ℕ → Result ℕ ℕ
call_passes words at = parentheses_at words at >>= λ following. passes_at words following

-- a call, after its name
unfoldable pub call_form : WordsView → List ℕ → ℕ → Result Statement ℕ
call_form words name at = call_passes words at >>= λ passes. Ok (Call name passes)

-- the name of a program that is L and digits: at most 31 of them, as they are written; 76 is 'L'
unfoldable pub number_name : List ℕ → Result (List ℕ) ℕ
number_name digits = if is_digits digits && nat_le (length digits) 31 then Ok (76 ∷ digits) else Err 22

-- a call of L and digits, after the L
unfoldable pub number_call_form : WordsView → ℕ → Result Statement ℕ
number_call_form words at = number_name (text_at words at) >>= λ name. call_form words name (at + 1)

-- PROC, after its name
unfoldable pub proc_form : WordsView → ℕ → Result Statement ℕ
proc_form words at = do
  name ← label_at words at
  statement_alone words (if is_keyword words (at + 1) (codes "DISPLOF") then at + 2 else at + 1) (Proc name)
