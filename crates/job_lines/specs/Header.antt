-- Meaning. Headers of programs.
use Rattle.std.specs.Prelude.{ℕ, ◌-◌, Bool, ◌&&◌, ◌||◌, if◌then◌else◌, ◌==◌, nat_eq, nat_le, codes, List, [], ◌∷◌, length, slice_range, Result, Ok, Err}
use Rattle.std.specs.List.{list_all, starts_with, ends_with}
use Rattle.std.specs.Char.{is_ascii_uppercase, is_ascii_digit}
use Rattle.nc_expressions.specs.NameTexts.{name_of}
use Rattle.job_lines.specs.declared.code.Code.{Code}
use Rattle.job_lines.specs.declared.code.Code.TheVariants.{BadHeader}

-- a capital letter, a digit or '_'
unfoldable pub is_name_byte : ℕ → Bool
is_name_byte byte = is_ascii_uppercase byte || is_ascii_digit byte || (byte == 95)

-- the name in a header, between "%_N_" and an ending of four bytes
abbrev pub name_in_header : List ℕ → List ℕ
name_in_header word = slice_range word 4 (length word - 4)

-- a header with this ending, and a name of 1 to 24 bytes
unfoldable pub has_header_form : List ℕ → List ℕ → Bool
has_header_form word ending =
    nat_le 9 (length word) && nat_le (length word) 32
    && starts_with nat_eq word (codes "%_N_") && ends_with nat_eq word ending
    && list_all is_name_byte (name_in_header word)

-- the header of a main program or of a subprogram
unfoldable pub is_header : List ℕ → Bool
is_header word = has_header_form word (codes "_MPF") || has_header_form word (codes "_SPF")

-- the name of a program; the word is in upper case
unfoldable pub header_word_of : List ℕ → Result (List ℕ) Code
header_word_of word = if is_header word then Ok (name_of (name_in_header word)) else Err BadHeader

unfoldable pub header_of : List (List ℕ) → Result (List ℕ) Code
header_of (word ∷ []) = header_word_of word
header_of words = Err BadHeader
