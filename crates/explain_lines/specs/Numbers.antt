-- Meaning. The number of a block.
use Rattle.std.specs.Prelude.{ℕ, ◌==◌, ◌||◌, Bool, not, List, [], ◌∷◌, if◌then◌else◌}
use Rattle.std.specs.List.{before_first}
use Rattle.std.specs.Char.{is_ascii_digit}
use Rattle.explain_lines.specs.Trimmed.{without_start}

abbrev pub is_no_digit : ℕ → Bool
is_no_digit byte = not (is_ascii_digit byte)

-- what follows the sign of a skipped block, 47
abbrev pub after_skip : List ℕ → List ℕ
after_skip [] = []
after_skip (byte ∷ bytes) = if byte == 47 then without_start bytes else byte ∷ bytes

-- a letter before digits, if there are any
abbrev pub before_digits : ℕ → List ℕ → List ℕ
before_digits letter [] = []
before_digits letter (digit ∷ digits) = letter ∷ digit ∷ digits

-- N, 78 or 110, and the digits behind it
abbrev pub number_in : List ℕ → List ℕ
number_in [] = []
number_in (letter ∷ rest) = if letter == 78 || letter == 110 then before_digits letter (before_first is_no_digit rest) else []

-- the block number that a line begins with, with its letter; nothing where it has none
unfoldable pub block_number_of : List ℕ → List ℕ
block_number_of text = number_in (after_skip text)
