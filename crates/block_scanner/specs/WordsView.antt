-- Meaning. What a contract sees of a line and its tokens.
use Rattle.std.specs.Prelude.{ℕ, List}
use Rattle.block_scanner.specs.declared.Token.{Token}

-- the bytes of a line, and its tokens in order
pub record WordsView : Type 0 where
  pub line : List ℕ
  pub tokens : List Token
