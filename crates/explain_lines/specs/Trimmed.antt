-- Meaning. A text without the white space around it.
use Rattle.std.specs.Prelude.{ℕ, List, [], ◌∷◌, if◌then◌else◌}
use Rattle.std.specs.Char.{is_ascii_whitespace}

-- without the white space at its start
abbrev pub without_start : List ℕ → List ℕ
without_start [] = []
without_start (byte ∷ bytes) = if is_ascii_whitespace byte then without_start bytes else byte ∷ bytes

-- a byte before others, unless it is white space before nothing
abbrev pub before_end : ℕ → List ℕ → List ℕ
before_end byte [] = if is_ascii_whitespace byte then [] else byte ∷ []
before_end byte (next ∷ rest) = byte ∷ next ∷ rest

-- without the white space at its end
abbrev pub without_end : List ℕ → List ℕ
without_end [] = []
without_end (byte ∷ bytes) = before_end byte (without_end bytes)

unfoldable pub trimmed : List ℕ → List ℕ
trimmed text = without_end (without_start text)
