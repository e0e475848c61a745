-- Meaning. A job list and the files of a control, joined to one input.
use Rattle.std.specs.Prelude.{ℕ, ◌+◌, ◌==◌, ◌||◌, not, Bool, true, List, [], ◌∷◌, ◌++◌, if◌then◌else◌, map, nat_lt, codes}
use Rattle.std.specs.Fmt.{decimal}
use Rattle.explain_joins.specs.Lines.{first_told, first_word, is_header, is_other_part, is_tape_end, lines_of, trimmed, without_end, without_mark}
use Rattle.explain_joins.specs.Names.{base_name, ends_so, header_of}

-- a byte of a comment: an underscore for control characters, and for ';', 59, which begins comments
abbrev pub comment_byte : ℕ → ℕ
comment_byte byte = if nat_lt byte 32 || byte == 59 then 95 else byte

-- the comment behind a header: the name of the file, and the line of the file that the header was, or 0
unfoldable pub comment : List ℕ → ℕ → List ℕ
comment name line = codes " ; FILE " ++ (map comment_byte name ++ (codes " LINE " ++ decimal line))

-- what becomes of a line, by its number: a header has no white space before it, and behind it the comment; the end of a tape goes, and so
-- does the white space at the end of any line
unfoldable pub content_text : List ℕ → ℕ → List ℕ → List ℕ
content_text name number line =
    if is_header (trimmed line) then trimmed line ++ comment name number
    else if is_tape_end (trimmed line) then []
    else without_end line

-- the same as a line, be it empty: so the lines after it keep their numbers
abbrev pub line_text : List ℕ → ℕ → List ℕ → List ℕ
line_text name number line = content_text name number line ++ codes "\n"

-- whether a part is taken from a line on: where the line is a header, unless the part is no program, and elsewhere as before it
unfoldable pub takes_from : Bool → List ℕ → Bool
takes_from before line = if is_header (trimmed line) then not (is_other_part (first_word (trimmed line))) else before

-- a line in a part that is taken, and nothing elsewhere
abbrev pub taken_text : Bool → List ℕ → ℕ → List ℕ → List ℕ
taken_text taken name number line = if taken then line_text name number line else []

-- lines of a file, the first with this number, after a part that is taken or not
abbrev pub lines_text : List ℕ → ℕ → Bool → List (List ℕ) → List ℕ
lines_text name number before [] = []
lines_text name number before (line ∷ lines) =
    taken_text (takes_from before line) name number line ++ lines_text name (number + 1) (takes_from before line) lines

-- the header that a file gets where the first of its lines that is not silent is none
abbrev pub made_header : List ℕ → List (List ℕ) → List ℕ
made_header name lines = if is_header (first_told lines) then [] else header_of name ++ (comment name 0 ++ codes "\n")

-- a file, by its name and its lines: a header, and the lines of all its parts that are programs
abbrev pub parts_text : List ℕ → List (List ℕ) → List ℕ
parts_text name lines = made_header name lines ++ lines_text name 1 true lines

-- a file, by its path and its bytes
unfoldable pub file_text : List ℕ → List ℕ → List ℕ
file_text path bytes = parts_text (base_name path) (lines_of (without_mark bytes))

-- a text, with a line feed at its end
abbrev pub ended_text : List ℕ → List ℕ
ended_text text = if ends_so text (codes "\n") then text else text ++ codes "\n"

-- the job list as it is, and the files after it
unfoldable pub joined : List ℕ → List ℕ → List ℕ
joined list files = ended_text (without_mark list) ++ files
