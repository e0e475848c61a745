-- Meaning. Which pieces and tokens are parentheses.
use Rattle.std.specs.Prelude.{Bool, true, false}
use Rattle.block_scanner.specs.declared.Kind.{Kind}
use Rattle.block_scanner.specs.declared.Kind.TheVariants as kind
use Rattle.block_scanner.specs.declared.Sign.TheVariants as sign
use Rattle.nc_blocks.specs.declared.pieces.Piece.{Piece}
use Rattle.nc_blocks.specs.declared.pieces.Piece.TheVariants as piece

abbrev pub is_close_kind : Kind → Bool
is_close_kind (kind.Sign sign.CloseParenthesis) = true
is_close_kind one = false

abbrev pub is_close : Piece → Bool
is_close piece.Close = true
is_close one = false

abbrev pub is_open : Piece → Bool
is_open piece.Open = true
is_open one = false
