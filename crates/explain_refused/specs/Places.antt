-- Meaning. At which place a line is refused.
use Rattle.std.specs.Prelude.{ℕ, ◌==◌, ◌||◌, Bool, not, List, if◌then◌else◌, Option, None, Some, Result, Ok, Err, length, nat_le, slice_index}
use Rattle.std.specs.List.{position}
use Rattle.std.specs.Option.{option_or}
use Rattle.std.specs.Int.{is_in_range}
use Rattle.block_scanner.specs.declared.ScanFault.{ScanFault}
use Rattle.block_scanner.specs.declared.ScanFault.TheVariants.{BadByte, OpenText, NoMemory}
use Rattle.block_scanner.specs.declared.Token.{Token}
use Rattle.block_scanner.specs.declared.limits.TheConstants.{LINE_LIMIT}
use Rattle.block_scanner.specs.Tokens.{tokens_of}

-- where the tokens of a line stop
abbrev pub stop_of : Result (List Token) ScanFault → Option ℕ
stop_of (Ok tokens) = None
stop_of (Err (BadByte place)) = Some place
stop_of (Err (OpenText place)) = Some place
stop_of (Err NoMemory) = None

-- the place in a line at which no word can begin, or at which a text begins that does not end; none of a line that is too long
unfoldable pub word_fault : List ℕ → Option ℕ
word_fault line = if nat_le (length line) LINE_LIMIT then stop_of (tokens_of line) else None

-- a byte that may not stand in a job line or a header: no tab, 9, and none of 32 to 126
abbrev pub is_strange : ℕ → Bool
is_strange byte = not (byte == 9 || is_in_range 32 126 byte)

-- '%', 37
abbrev pub begins_with_percent : List ℕ → Bool
begins_with_percent line = slice_index line 0 == 37

-- the place of a byte that is not allowed, at code 3, or of a text that is not closed, at code 20: in a header, which begins with '%', a byte outside 32 to 126 counts first
unfoldable pub byte_place : ℕ → List ℕ → Option ℕ
byte_place code line =
    if code == 3 || code == 20
    then (if begins_with_percent line then option_or (position is_strange line) (word_fault line) else option_or (word_fault line) (position is_strange line))
    else None
