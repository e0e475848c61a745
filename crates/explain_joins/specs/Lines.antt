-- Meaning. The lines of a file of a control, and what each of them begins.
use Rattle.std.specs.Prelude.{ℕ, ◌-◌, ◌==◌, ◌&&◌, ◌||◌, not, Bool, List, [], ◌∷◌, if◌then◌else◌, Option, None, Some, length, take, drop, slice_index, nat_lt, position, codes}
use Rattle.std.specs.Char.{is_ascii_alphabetic, is_ascii_whitespace}
use Rattle.std.specs.List.{list_all, onto_first}
use Rattle.std.specs.Str.{bytes_eq, str_eq_ignore_ascii_case}

-- the byte order mark, which some editors put before a text in UTF-8
abbrev pub byte_order_mark : List ℕ
byte_order_mark = 239 ∷ 187 ∷ 191 ∷ []

-- a text without the byte order mark before it
abbrev pub without_mark : List ℕ → List ℕ
without_mark text = if bytes_eq (take 3 text) byte_order_mark then drop 3 text else text

-- the lines of a text, each with its line feed, 10, which the last may lack
abbrev pub lines_of : List ℕ → List (List ℕ)
lines_of [] = []
lines_of (byte ∷ bytes) = if byte == 10 then (byte ∷ []) ∷ lines_of bytes else onto_first byte (lines_of bytes)

-- a text without the white space at its start
abbrev pub without_start : List ℕ → List ℕ
without_start [] = []
without_start (byte ∷ bytes) = if is_ascii_whitespace byte then without_start bytes else byte ∷ bytes

-- a byte before others, unless it is white space before nothing
abbrev pub before_end : ℕ → List ℕ → List ℕ
before_end byte [] = if is_ascii_whitespace byte then [] else byte ∷ []
before_end byte (next ∷ rest) = byte ∷ next ∷ rest

-- a text without the white space at its end
abbrev pub without_end : List ℕ → List ℕ
without_end [] = []
without_end (byte ∷ bytes) = before_end byte (without_end bytes)

-- a line without the white space around it
abbrev pub trimmed : List ℕ → List ℕ
trimmed line = without_start (without_end line)

-- '%', 37, alone, as at the ends of a tape
abbrev pub is_tape_end : List ℕ → Bool
is_tape_end text = bytes_eq text (codes "%")

-- nothing but a comment, which ';', 59, begins, or the end of a tape
unfoldable pub is_silent : List ℕ → Bool
is_silent text = (length text == 0 || slice_index text 0 == 59) || is_tape_end text

-- a header, which begins a part of a file: '%', 37, and more after it
unfoldable pub is_header : List ℕ → Bool
is_header text = slice_index text 0 == 37 && not (is_tape_end text)

-- the first line that is not silent, without the white space around it; nothing where there is none
abbrev pub first_told : List (List ℕ) → List ℕ
first_told [] = []
first_told (line ∷ lines) = if is_silent (trimmed line) then first_told lines else trimmed line

-- white space, control characters and ';', 59, end a word
abbrev pub ends_word : ℕ → Bool
ends_word byte = nat_lt byte 33 || byte == 59

-- a text up to a place, or all of it where there is no place
abbrev pub up_to : Option ℕ → List ℕ → List ℕ
up_to None text = text
up_to (Some place) text = take place text

-- the first word of a text
abbrev pub first_word : List ℕ → List ℕ
first_word text = up_to (position ends_word text) text

-- the first line that is not silent begins with the word JOB, in capitals or small letters
abbrev pub tells_job : List (List ℕ) → Bool
tells_job lines = str_eq_ignore_ascii_case (first_word (first_told lines)) (codes "JOB")

-- a job list begins with the word JOB, after lines that are empty or comments
unfoldable pub begins_with_job : List ℕ → Bool
begins_with_job list = tells_job (lines_of (without_mark list))

-- the last four bytes of a word
abbrev pub last_four : List ℕ → List ℕ
last_four word = drop (length word - 4) word

-- what the header of a program ends with, in capitals or small letters
abbrev pub is_program_kind : List ℕ → Bool
is_program_kind kind = str_eq_ignore_ascii_case kind (codes "_MPF") || str_eq_ignore_ascii_case kind (codes "_SPF")

-- what the header of any part ends with: "_", 95, and three letters
abbrev pub is_kind : List ℕ → Bool
is_kind kind = length kind == 4 && (slice_index kind 0 == 95 && list_all is_ascii_alphabetic (drop 1 kind))

-- the kind of a part that is no program
abbrev pub is_other_kind : List ℕ → Bool
is_other_kind kind = is_kind kind && not (is_program_kind kind)

-- the header of a part that is no program: "%_N_", a name, and its kind
unfoldable pub is_other_part : List ℕ → Bool
is_other_part word = str_eq_ignore_ascii_case (take 4 word) (codes "%_N_") && is_other_kind (last_four (drop 4 word))
