-- Meaning. The text of a token.
use Rattle.std.specs.Prelude.{ℕ, List, slice_range}
use Rattle.block_scanner.specs.declared.Token.{Token}

-- its slice of the line
abbrev pub text_of : List ℕ → Token → List ℕ
text_of line token = slice_range line token.start token.end
