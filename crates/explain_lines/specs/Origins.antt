-- Meaning. From which file a line of a joined input comes: a header names its file and its line in a comment.
use Rattle.std.specs.Prelude.{ℕ, zero, suc, ◌+◌, ◌-◌, ◌*◌, min, ◌==◌, ◌≡◌, ◌≤◌, List, [], ◌∷◌, ◌++◌, if◌then◌else◌, Option, None, Some, length, take, drop, slice_index, codes}
use Rattle.std.specs.Str.{bytes_eq}
use Rattle.std.specs.Char.{is_ascii_digit}
use Rattle.std.specs.Fmt.{decimal}
use Rattle.explain_lines.specs.Lines.{line_text}

-- what stands before and behind a mark at the front of a text, unless it stands farther behind too
abbrev pub nearer_parts : List ℕ → ℕ → List ℕ → Option (List ℕ × List ℕ) → Option (List ℕ × List ℕ)
nearer_parts mark byte bytes None = if bytes_eq (take (length mark) (byte ∷ bytes)) mark then Some ([], drop (length mark) (byte ∷ bytes)) else None
nearer_parts mark byte bytes (Some parts) = Some (byte ∷ parts.0, parts.1)

-- what stands before and behind a mark where it last stands in a text
abbrev pub parts_of : List ℕ → List ℕ → Option (List ℕ × List ℕ)
parts_of mark [] = None
parts_of mark (byte ∷ bytes) = nearer_parts mark byte bytes (parts_of mark bytes)

-- a mark last stands in a text at a place
pub record HasMark (mark text : List ℕ) (place : ℕ) : Type 0 where
  pub within : place + length mark ≤ length text
  pub parts : parts_of mark text ≡ Some (take place text, drop (place + length mark) text)

-- the greatest number of a line
abbrev pub last_line : ℕ
last_line = 4294967295

-- the number that decimal digits write behind a number, up to the greatest of a line; 0 where another byte stands among them
abbrev pub number_from : ℕ → List ℕ → ℕ
number_from number [] = number
number_from number (digit ∷ digits) = if is_ascii_digit digit then number_from (min (number * 10 + (digit - 48)) last_line) digits else 0

-- a file, and its line
abbrev pub file_line : Option (List ℕ × List ℕ) → Option (List ℕ × ℕ)
file_line None = None
file_line (Some parts) = Some (parts.0, number_from 0 parts.1)

abbrev pub file_behind : Option (List ℕ × List ℕ) → Option (List ℕ × ℕ)
file_behind None = None
file_behind (Some parts) = file_line (parts_of (codes " LINE ") parts.1)

-- the file that a header names, and the line of the file that the header was, or 0
unfoldable pub origin_in : List ℕ → Option (List ℕ × ℕ)
origin_in header = file_behind (parts_of (codes "; FILE ") header)

-- the last header up to and with a line, by its number; 0 where there is none. 37 is '%'
abbrev pub header_of : List ℕ → ℕ → ℕ
header_of input zero = 0
header_of input (suc n) = if slice_index (line_text input (suc n)) 0 == 37 then suc n else header_of input n

-- so many lines farther
abbrev pub farther : ℕ → Option (List ℕ × ℕ) → Option (List ℕ × ℕ)
farther lines None = None
farther lines (Some origin) = Some (origin.0, min (origin.1 + lines) last_line)

-- the file and its line that a line of the input comes from, where the header before it names one
unfoldable pub origin_at : List ℕ → ℕ → Option (List ℕ × ℕ)
origin_at input line = if header_of input line == 0 then None else farther (line - header_of input line) (origin_in (line_text input (header_of input line)))

-- how it is said
abbrev pub said : Option (List ℕ × ℕ) → List ℕ
said None = []
said (Some origin) = codes ", " ++ (origin.0 ++ (codes " line " ++ decimal origin.1))

unfoldable pub origin_text : List ℕ → ℕ → List ℕ
origin_text input line = said (origin_at input line)
