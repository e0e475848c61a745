-- Meaning. The last header up to and with each line.
use Rattle.std.specs.Prelude.{◌≡◌, ℕ, List, slice_get, Some}
use Rattle.explain_lines.specs.Origins.{header_of}

-- each number that is kept of a line is that of the last header up to and with it
abbrev pub AreHeaders : List ℕ → List ℕ → Type 0
AreHeaders input headers = (line header : ℕ) → slice_get headers line ≡ Some header → header ≡ header_of input line
