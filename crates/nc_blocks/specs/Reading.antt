-- Meaning. What a step of reading gives, and the expressions of a block.
use Rattle.std.specs.Prelude.{◌≡◌, ℕ, ℤ, ◌+◌, ◌/◌, ◌&&◌, nat_le, length, neg_ℤ, ◌==◌, if◌then◌else◌, List, Option, Some, None, Result, Ok, Err}
use Rattle.std.specs.Int.RustNames.{unsigned_abs}
use Rattle.block_scanner.specs.WordsView.{WordsView}
use Rattle.nc_expressions.specs.declared.trees.Expr.{Expr}
use Rattle.nc_expressions.specs.declared.faults.SyntaxFault.{SyntaxFault}
use Rattle.nc_expressions.specs.declared.faults.SyntaxFault.TheVariants.{Refused, NoMemory}
use Rattle.nc_expressions.specs.Parsing.{expr_at}
use Rattle.nc_expressions.specs.Stops.{stop_at}
use Rattle.nc_expressions.specs.Symbols.{symbols_of, is_digits, index_of}
use Rattle.nc_expressions.specs.Tree.{Tree, tree_of}
use Rattle.nc_blocks.specs.declared.pieces.Piece.{Piece}
use Rattle.nc_blocks.specs.declared.pieces.Piece.TheVariants as piece
use Rattle.nc_blocks.specs.Pieces.{piece_at, text_at}
use Rattle.nc_expressions.specs.NameTexts.{name_of}
use Rattle.nc_blocks.specs.Marks.{word_code}

-- the answer shows what is read, or has its refusal, or memory ran out
abbrev pub Gives : {A B : Type 0} → (B → A) → Result A ℕ → Result B SyntaxFault → Type 0
Gives view read (Ok x) = read ≡ Ok (view x)
Gives view read (Err (Refused code)) = read ≡ Err code
Gives view read (Err NoMemory) = Unit {0}

-- a tree and the place after it
abbrev pub placed_tree : Expr × ℕ → Tree × ℕ
placed_tree p = (tree_of p.0, p.1)

-- the expression at a place
unfoldable pub expression_at : WordsView → ℕ → Result (Tree × ℕ) ℕ
expression_at words at = expr_at (symbols_of words) at

abbrev pub in_words : WordsView → ℕ → Result (Tree × ℕ) ℕ → Result (Tree × ℕ) ℕ
in_words words stop (Ok p) = Ok p
in_words words stop (Err code) = Err (if code == 22 then word_code words stop else code)

-- the same in a word block: where another form's first name stands at the place of the refusal, it is 24
unfoldable pub value_at : WordsView → ℕ → Result (Tree × ℕ) ℕ
value_at words at = in_words words (stop_at (symbols_of words) at) (expression_at words at)

abbrev pub after_sign_of : Piece → ℕ → ℕ
after_sign_of piece.Plus at = at + 1
after_sign_of piece.Minus at = at + 1
after_sign_of one at = at

-- the place after a sign, if one stands there
unfoldable pub after_sign : WordsView → ℕ → ℕ
after_sign words at = after_sign_of (piece_at words at) at

abbrev pub with_sign : Piece → ℤ → ℤ
with_sign piece.Minus z = neg_ℤ z
with_sign one z = z

abbrev pub constant_of : Piece → Piece → ℕ → ℕ → Result (ℤ × ℕ) ℕ
constant_of first (piece.Number z) next code = Ok (with_sign first z, next)
constant_of first one next code = Err code

-- a number with its sign if it has one, and the place after it; or this refusal
unfoldable pub constant_at : WordsView → ℕ → ℕ → Result (ℤ × ℕ) ℕ
constant_at words at code = constant_of (piece_at words at) (piece_at words (after_sign words at)) (after_sign words at + 1) code

-- the whole part of a number that is not negative
abbrev pub whole : ℤ → ℕ
whole z = unsigned_abs z / 1000000

-- the number of a block: one to eight digits
unfoldable pub block_number : List ℕ → ℤ → Result ℕ ℕ
block_number text z = if is_digits text && nat_le (length text) 8 then Ok (whole z) else Err 22

abbrev pub block_number_of : Piece → List ℕ → Result ℕ ℕ
block_number_of (piece.Number z) text = block_number text z
block_number_of one text = Err 22

unfoldable pub block_number_at : WordsView → ℕ → Result ℕ ℕ
block_number_at words at = block_number_of (piece_at words at) (text_at words at)

abbrev pub index_or : Option ℕ → ℕ → Result ℕ ℕ
index_or (Some i) code = Ok i
index_or None code = Err code

-- the number of a parameter: digits, and it counts by its value
unfoldable pub parameter_number : List ℕ → ℤ → Result ℕ ℕ
parameter_number text z = if is_digits text then index_or (index_of z) 22 else Err 22

abbrev pub index_of_piece : Piece → List ℕ → ℕ → Result ℕ ℕ
index_of_piece (piece.Number z) text code = parameter_number text z
index_of_piece one text code = Err code

-- the parameter that a number names, or this refusal where none stands there
unfoldable pub index_at : WordsView → ℕ → ℕ → Result ℕ ℕ
index_at words at code = index_of_piece (piece_at words at) (text_at words at) code

abbrev pub label_of : Piece → List ℕ → Result (List ℕ) ℕ
label_of piece.Name text = Ok (name_of text)
label_of one text = Err 22

-- the name at a place
unfoldable pub label_at : WordsView → ℕ → Result (List ℕ) ℕ
label_at words at = label_of (piece_at words at) (text_at words at)
