-- Law. What stands in a line, from one place up to another: expressions, numbers, names and lists.
use Rattle.std.specs.Prelude.{◌≡◌, ℕ, ℤ, neg_ℤ, ◌+◌, ◌≤◌, ◌⊎◌, IsTrue, List, [], ◌∷◌, length, slice_range, Some}
use Rattle.block_scanner.specs.WordsView.{WordsView}
use Rattle.nc_expressions.specs.Symbols.{symbols_of, is_digits, index_of}
use Rattle.nc_expressions.specs.Syntax.{Syntax, spelling, tree, IsExpression}
use Rattle.nc_expressions.specs.Tree.{Tree}
use Rattle.nc_blocks.specs.declared.pieces.Piece.TheVariants as piece
use Rattle.nc_blocks.specs.Pieces.{piece_at, text_at}
use Rattle.nc_blocks.specs.Marks.{is_keyword}
use Rattle.nc_blocks.specs.Reading.{whole}
use Rattle.nc_blocks.specs.AxisNames.{is_axis_letter}
use Rattle.nc_expressions.specs.NameTexts.{name_of}

-- this name stands there
abbrev pub IsKeyword : WordsView → ℕ → List ℕ → Type 0
IsKeyword words at word = IsTrue (is_keyword words at word)

-- the symbols from one place up to another are an expression of this tree
abbrev pub IsExpressionText : WordsView → ℕ → ℕ → Tree → Type 0
IsExpressionText words at end t =
    (x : Syntax) × IsExpression x × (tree x ≡ t) × (end ≤ length words.tokens) × (slice_range (symbols_of words) at end ≡ spelling x)

-- a number, with its sign if it has one
abbrev pub IsSignedNumber : WordsView → ℕ → ℕ → ℤ → Type 0
IsSignedNumber words at end z =
    ((piece_at words at ≡ piece.Number z) × (end ≡ at + 1))
    ⊎ (((piece_at words at ≡ piece.Plus) × (piece_at words (at + 1) ≡ piece.Number z) × (end ≡ at + 2))
    ⊎ ((size : ℤ) × (piece_at words at ≡ piece.Minus) × (piece_at words (at + 1) ≡ piece.Number size) × (z ≡ neg_ℤ size) × (end ≡ at + 2)))

-- a number of digits alone
abbrev pub IsDigits : WordsView → ℕ → Type 0
IsDigits words at = (z : ℤ) × (piece_at words at ≡ piece.Number z) × IsTrue (is_digits (text_at words at))

-- the number of a block: one to eight digits
abbrev pub IsBlockNumber : WordsView → ℕ → ℕ → Type 0
IsBlockNumber words at n =
    (z : ℤ) × (piece_at words at ≡ piece.Number z) × IsTrue (is_digits (text_at words at)) × (length (text_at words at) ≤ 8) × (n ≡ whole z)

-- the number of a parameter: digits alone, 0 to 999 by their value
abbrev pub IsIndex : WordsView → ℕ → ℕ → Type 0
IsIndex words at i = (z : ℤ) × (piece_at words at ≡ piece.Number z) × IsTrue (is_digits (text_at words at)) × (index_of z ≡ Some i)

-- ( expr )
abbrev pub IsEnclosed : WordsView → ℕ → ℕ → Tree → Type 0
IsEnclosed words at end t =
    (close : ℕ) × (piece_at words at ≡ piece.Open) × IsExpressionText words (at + 1) close t
    × (piece_at words close ≡ piece.Close) × (end ≡ close + 1)

-- [ expr ]
abbrev pub IsBracketed : WordsView → ℕ → ℕ → Tree → Type 0
IsBracketed words at end t =
    (close : ℕ) × (piece_at words at ≡ piece.OpenBracket) × IsExpressionText words (at + 1) close t
    × (piece_at words close ≡ piece.CloseBracket) × (end ≡ close + 1)

-- = expr
abbrev pub IsAssigned : WordsView → ℕ → ℕ → Tree → Type 0
IsAssigned words at end t = (piece_at words at ≡ piece.Assign) × IsExpressionText words (at + 1) end t

-- an axis name: a letter of an axis, and digits
abbrev pub IsAxisName : WordsView → ℕ → List ℕ → Type 0
IsAxisName words at name =
    (letter : ℕ) × (piece_at words at ≡ piece.Letter letter) × IsTrue (is_axis_letter letter) × IsDigits words (at + 1)
    × (name ≡ letter ∷ text_at words (at + 1))

-- things that stand one after the other
abbrev pub AreListed : {A : Type 0} → (ℕ → ℕ → A → Type 0) → ℕ → ℕ → List A → Type 0
AreListed Item at end [] = end ≡ at
AreListed Item at end (x ∷ xs) = (middle : ℕ) × Item at middle x × AreListed Item middle end xs

-- a comma before each of them
abbrev pub AreAfterCommas : {A : Type 0} → WordsView → (ℕ → ℕ → A → Type 0) → ℕ → ℕ → List A → Type 0
AreAfterCommas words Item at end [] = end ≡ at
AreAfterCommas words Item at end (x ∷ xs) =
    (middle : ℕ) × (piece_at words at ≡ piece.Comma) × Item (at + 1) middle x × AreAfterCommas words Item middle end xs

-- one at least, with commas between them
abbrev pub AreSeparated : {A : Type 0} → WordsView → (ℕ → ℕ → A → Type 0) → ℕ → ℕ → List A → Type 0
AreSeparated words Item at end [] = ⊥
AreSeparated words Item at end (x ∷ xs) = (middle : ℕ) × Item at middle x × AreAfterCommas words Item middle end xs

-- this name alone
abbrev pub IsAlone : WordsView → ℕ → ℕ → List ℕ → Type 0
IsAlone words at end word = IsKeyword words at word × (end ≡ at + 1)

-- a name that the program gives
abbrev pub IsNameOf : WordsView → ℕ → List ℕ → Type 0
IsNameOf words at name = (piece_at words at ≡ piece.Name) × (name ≡ name_of (text_at words at))
