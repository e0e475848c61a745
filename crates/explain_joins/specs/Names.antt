-- Meaning. How files of a control and their programs are named.
use Rattle.std.specs.Prelude.{ℕ, ◌+◌, ◌-◌, Bool, List, ◌++◌, if◌then◌else◌, Option, None, Some, length, map, take, drop, codes}
use Rattle.std.specs.Char.{is_ascii_alphanumeric, to_ascii_uppercase}
use Rattle.std.specs.Option.{unwrap_or}
use Rattle.std.specs.Path.{rfind_below}
use Rattle.std.specs.Str.{bytes_eq}

-- what stands behind a place; the whole text where there is none
abbrev pub behind : List ℕ → Option ℕ → List ℕ
behind text None = text
behind text (Some place) = drop (place + 1) text

-- the name of a file: what stands behind the last '/', 47, of its path
abbrev pub base_name : List ℕ → List ℕ
base_name path = behind path (rfind_below 47 path (length path))

-- where the ending of a name begins: at its last point, 46
abbrev pub point_of : List ℕ → ℕ
point_of name = unwrap_or (rfind_below 46 name (length name)) (length name)

-- a capital or a digit for a byte, and an underscore for what no name of a program has
abbrev pub name_byte : ℕ → ℕ
name_byte byte = if is_ascii_alphanumeric byte then to_ascii_uppercase byte else 95

-- without the sign of a header before it
abbrev pub without_sign : List ℕ → List ℕ
without_sign letters = if bytes_eq (take 3 letters) (codes "_N_") then drop 3 letters else letters

-- a text ends so
abbrev pub ends_so : List ℕ → List ℕ → Bool
ends_so text end = bytes_eq (drop (length text - length end) text) end

-- the name of a program has at most 24 letters
abbrev pub short_name : List ℕ → List ℕ
short_name letters = take 24 letters

-- letters without the four at their end
abbrev pub before_four : List ℕ → List ℕ
before_four letters = take (length letters - 4) letters

-- the kind of a program, from the letters of the ending of its file's name
abbrev pub kind_of : List ℕ → List ℕ
kind_of ending = if bytes_eq ending (codes "_SPF") then codes "_SPF" else codes "_MPF"

-- the name and the kind of a program; letters may have the kind at their end
unfoldable pub word_of : List ℕ → List ℕ → List ℕ
word_of letters ending =
    if ends_so letters (codes "_SPF") then short_name (before_four letters) ++ codes "_SPF"
    else if ends_so letters (codes "_MPF") then short_name (before_four letters) ++ codes "_MPF"
    else short_name letters ++ kind_of ending

-- the header of letters whose ending begins at a place
abbrev pub header_at : List ℕ → ℕ → List ℕ
header_at letters point = codes "%_N_" ++ word_of (without_sign (take point letters)) (drop point letters)

-- the header that the name of a file gives to its program
unfoldable pub header_of : List ℕ → List ℕ
header_of name = header_at (map name_byte name) (point_of name)
