-- Meaning. The lines of an input, and what stands in a line.
use Rattle.std.specs.Prelude.{◌≡◌, ℕ, ◌-◌, ◌<◌, ◌≤◌, Bool, not, ◌||◌, List, [], ◌∷◌, if◌then◌else◌, ◌==◌, slice_index, take, drop, length, filter, position, Option, Some, None}
use Rattle.std.specs.List.{list_any, slice_split, onto_first, enumerate_from}
use Rattle.std.specs.Str.{bytes_eq}
use Rattle.std.specs.Str.Lines.{strip_carriage_return}
use Rattle.block_scanner.specs.Bytes.{is_blank, is_semicolon}

-- a line's number, from 1, and its bytes with the line end
abbrev pub Line : Type 0
Line = ℕ × List ℕ

-- line feed
abbrev pub is_feed : ℕ → Bool
is_feed byte = byte == 10

-- the lines, each with its line end; the last may lack it
abbrev pub raw_lines : List ℕ → List (List ℕ)
raw_lines [] = []
raw_lines (byte ∷ bytes) = if is_feed byte then (byte ∷ []) ∷ raw_lines bytes else onto_first byte (raw_lines bytes)

-- the first line of an input has so many bytes
pub record IsFirstLine (bytes : List ℕ) (length_of_line : ℕ) : Type 0 where
  pub some : 0 < length_of_line
  pub within : length_of_line ≤ length bytes
  pub lines : raw_lines bytes ≡ take length_of_line bytes ∷ raw_lines (drop length_of_line bytes)

abbrev pub numbered_lines : List ℕ → List Line
numbered_lines bytes = enumerate_from 1 (raw_lines bytes)

-- a line without its line feed and a carriage return before that
unfoldable pub text_of : List ℕ → List ℕ
text_of raw = if slice_index raw (length raw - 1) == 10 then strip_carriage_return (take (length raw - 1) raw) else raw

-- a text up to a place, or all of it where there is no place
abbrev pub up_to : Option ℕ → List ℕ → List ℕ
up_to None text = text
up_to (Some place) text = take place text

-- outside the texts of a block a ';' begins a comment
unfoldable pub before_comment : List ℕ → List ℕ
before_comment text = up_to (position is_semicolon text) text

-- something other than blanks stands in the text
abbrev pub is_visible : List ℕ → Bool
is_visible text = list_any (λ byte. not (is_blank byte)) text

-- the line has a token: something other than blanks stands before its first ';'
unfoldable pub has_token : List ℕ → Bool
has_token raw = is_visible (before_comment (text_of raw))

-- 37 is '%'
unfoldable pub begins_with_percent : List ℕ → Bool
begins_with_percent raw = slice_index raw 0 == 37

-- the words of a text, which blanks and tabs separate
abbrev pub words : List ℕ → List (List ℕ)
words text = filter (λ word. not (length word == 0)) (slice_split is_blank text)

-- the line is nothing but its line end: a line feed, or a carriage return and a line feed
unfoldable pub is_bare : List ℕ → Bool
is_bare raw = bytes_eq raw (10 ∷ []) || bytes_eq raw (13 ∷ 10 ∷ [])
