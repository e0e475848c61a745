-- Law. Tokens that stand in order in a line.
use Rattle.std.specs.Prelude.{◌≡◌, ℕ, ◌<◌, ◌≤◌, List, [], ◌∷◌, length, Ok}
use Rattle.block_scanner.specs.declared.Token.{Token}
use Rattle.block_scanner.specs.WordsView.{WordsView}
use Rattle.block_scanner.specs.Tokens.{tokens_of}

-- from one place to another, tokens stand one after the other, and none is empty
abbrev pub InOrder : ℕ → List Token → ℕ → Type 0
InOrder from [] to = from ≤ to
InOrder from (token ∷ tokens) to = (from ≤ token.start) × (token.start < token.end) × InOrder token.end tokens to

-- a token that is not empty and ends within the line
abbrev pub IsTokenOf : List ℕ → Token → Type 0
IsTokenOf line token = (token.start < token.end) × (token.end ≤ length line)

-- what `scan` gives of a line that is not too long: the tokens of the line, in order, and no more of them than bytes
pub record IsScanned (words : WordsView) : Type 0 where
  pub read : tokens_of words.line ≡ Ok words.tokens
  pub ordered : InOrder 0 words.tokens (length words.line)
  pub few : length words.tokens ≤ length words.line
  pub short : length words.line ≤ 512
