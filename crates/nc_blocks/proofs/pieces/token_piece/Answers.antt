use Rattle.std.proofs.Common.{ap, ◌∙◌, sym}
use Rattle.micro_units.specs.NumberText.{number_of}
use Rattle.nc_expressions.specs.Symbols.{number_symbol}
use Rattle.nc_blocks.specs.Pieces.{number_piece}
use Rattle.nc_blocks.proofs.Places.{kind_read, number_read}
use Rattle.nc_blocks.proofs.pieces.token_piece.Goals as goal

-- the kind alone tells what stands there
pub returns-then-is_read_by_kind : goal.returns-then-is_read_by_kind
returns-then-is_read_by_kind c =
    kind_read c.args.words.now c.args.at c.token-token.result c.plain_piece.result c.requires.within c.token-token.ensures.read
    (sym c.is_read_by_kind.ensures ∙ c.if-is_read_by_kind.true) c.plain_piece.ensures

-- a number stands there
pub returns-in-Number : goal.returns-in-Number
returns-in-Number c =
    number_read c.args.words.now c.args.at c.token-token.result c.number_of_text.result c.requires.within c.token-token.ensures.read c.in-Number.is
    (λ digits. c.number_of_text.ensures digits ∙ ap (λ t. number_piece (number_symbol (number_of t) digits)) c.text.ensures)
