-- Meaning. What each token of a line is to a block.
use Rattle.std.specs.Prelude.{ℕ, ◌+◌, ◌==◌, not, Bool, true, false, List, [], Option, Some, None, slice_get, nat_lt, if◌then◌else◌}
use Rattle.block_scanner.specs.declared.Kind.{Kind}
use Rattle.block_scanner.specs.declared.Kind.TheVariants as kind
use Rattle.block_scanner.specs.declared.Sign.{Sign}
use Rattle.block_scanner.specs.declared.Sign.TheVariants as sign
use Rattle.block_scanner.specs.declared.Token.{Token}
use Rattle.block_scanner.specs.WordsView.{WordsView}
use Rattle.block_scanner.specs.Texts.{text_of}
use Rattle.nc_expressions.specs.declared.symbols.Symbol.{Symbol}
use Rattle.nc_expressions.specs.declared.symbols.Symbol.TheVariants as symbol
use Rattle.nc_expressions.specs.Symbols.{symbols_of}
use Rattle.nc_blocks.specs.declared.pieces.Piece.{Piece}
use Rattle.nc_blocks.specs.declared.pieces.Piece.TheVariants as piece
use Rattle.nc_expressions.specs.declared.limits.TheConstants.{NAME_LIMIT}

unfoldable pub sign_piece : Sign → Piece
sign_piece sign.Plus = piece.Plus
sign_piece sign.Minus = piece.Minus
sign_piece sign.Times = piece.Other
sign_piece sign.Slash = piece.Slash
sign_piece sign.Assign = piece.Assign
sign_piece sign.Equal = piece.Other
sign_piece sign.NotEqual = piece.Other
sign_piece sign.Less = piece.Other
sign_piece sign.Greater = piece.Other
sign_piece sign.LessEqual = piece.Other
sign_piece sign.GreaterEqual = piece.Other
sign_piece sign.OpenParenthesis = piece.Open
sign_piece sign.CloseParenthesis = piece.Close
sign_piece sign.OpenBracket = piece.OpenBracket
sign_piece sign.CloseBracket = piece.CloseBracket
sign_piece sign.Comma = piece.Comma
sign_piece sign.Colon = piece.Colon
sign_piece sign.Dollar = piece.Other

-- a number that is out of range fits no form
unfoldable pub number_piece : Symbol → Piece
number_piece (symbol.Number z digits) = piece.Number z
number_piece one = piece.Broken

-- a name that is too long fits no form
unfoldable pub plain_piece : Kind → ℕ → ℕ → Symbol → Piece
plain_piece (kind.Letter b) from to one = piece.Letter b
plain_piece kind.Name from to one = if nat_lt (from + NAME_LIMIT) to then piece.Broken else piece.Name
plain_piece kind.Number from to one = number_piece one
plain_piece kind.Text from to one = piece.Text
plain_piece (kind.Sign s) from to one = sign_piece s

-- an exponent fits no form
unfoldable pub piece_of : Token → Symbol → Piece
piece_of token symbol.Exponent = piece.Broken
piece_of token one = plain_piece token.kind token.start token.end one

-- a token that its kind alone tells: no name, no number, and no E, which is an exponent after a number
abbrev pub is_read_by_kind : Kind → Bool
is_read_by_kind (kind.Letter b) = not (b == 69)
is_read_by_kind kind.Name = false
is_read_by_kind kind.Number = false
is_read_by_kind kind.Text = true
is_read_by_kind (kind.Sign s) = true

abbrev pub found_piece : Option Token → Option Symbol → Piece
found_piece None one = piece.End
found_piece (Some token) None = piece.End
found_piece (Some token) (Some one) = piece_of token one

-- what stands at a place
unfoldable pub piece_at : WordsView → ℕ → Piece
piece_at words at = found_piece (slice_get words.tokens at) (slice_get (symbols_of words) at)

abbrev pub found_text : List ℕ → Option Token → List ℕ
found_text line (Some token) = text_of line token
found_text line None = []

-- the text of the token at a place
unfoldable pub text_at : WordsView → ℕ → List ℕ
text_at words at = found_text words.line (slice_get words.tokens at)

-- the end of the line stands nowhere
abbrev pub Stands : Piece → Type 0 → Type 0
Stands piece.End P = Unit {0}
Stands (piece.Letter b) P = P
Stands piece.Name P = P
Stands (piece.Number z) P = P
Stands piece.Text P = P
Stands piece.Plus P = P
Stands piece.Minus P = P
Stands piece.Slash P = P
Stands piece.Assign P = P
Stands piece.Open P = P
Stands piece.Close P = P
Stands piece.OpenBracket P = P
Stands piece.CloseBracket P = P
Stands piece.Comma P = P
Stands piece.Colon P = P
Stands piece.Other P = P
Stands piece.Broken P = P

abbrev pub is_name : Piece → Bool
is_name piece.Name = true
is_name one = false

abbrev pub is_text : Piece → Bool
is_text piece.Text = true
is_text one = false

abbrev pub is_assign : Piece → Bool
is_assign piece.Assign = true
is_assign one = false

abbrev pub is_end : Piece → Bool
is_end piece.End = true
is_end one = false
