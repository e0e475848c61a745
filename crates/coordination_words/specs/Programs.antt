-- Meaning. The program that a text in INIT names.
use Rattle.std.specs.Prelude.{ℕ, ◌-◌, ◌==◌, ◌&&◌, ◌||◌, nat_le, Bool, if◌then◌else◌, List, length, take, drop, reverse, position, codes, Option, Some, None}
use Rattle.std.specs.Str.{bytes_eq}
use Rattle.nc_expressions.specs.NameTexts.{name_of}
use Rattle.nc_expressions.specs.declared.limits.TheConstants.{NAME_LIMIT}
use Rattle.nc_expressions.specs.Symbols.{is_word}

-- so many bytes at the end of a text, or all of it where no number is given
abbrev pub last_bytes : List ℕ → Option ℕ → List ℕ
last_bytes text None = text
last_bytes text (Some count) = drop (length text - count) text

-- what stands after the last '/', or the whole text where there is none
unfoldable pub text_after_slash : List ℕ → List ℕ
text_after_slash text = last_bytes text (position (λ byte. byte == 47) (reverse text))

-- without "_N_" at its beginning, in any case
unfoldable pub without_beginning : List ℕ → List ℕ
without_beginning text = if nat_le 3 (length text) && is_word (take 3 text) (codes "_N_") then drop 3 text else text

-- "_MPF" or "_SPF", in any case
abbrev pub is_ending : List ℕ → Bool
is_ending text = is_word text (codes "_MPF") || is_word text (codes "_SPF")

-- without "_MPF" or "_SPF" at its end
unfoldable pub without_ending : List ℕ → List ℕ
without_ending text = if nat_le 4 (length text) && is_ending (drop (length text - 4) text) then take (length text - 4) text else text

-- the bytes that name the program
abbrev pub program_text : List ℕ → List ℕ
program_text text = without_ending (without_beginning (text_after_slash text))

-- the number of the program of this name among the names of the library
abbrev pub number_of : List (List ℕ) → List ℕ → Option ℕ
number_of names name = position (λ n. bytes_eq n name) names

-- the number of the program that a text names; names are compared in upper case, and no program has a name of more bytes than names may have
unfoldable pub program_named : List (List ℕ) → List ℕ → Option ℕ
program_named names text = if nat_le (length text) NAME_LIMIT then number_of names (name_of text) else None
