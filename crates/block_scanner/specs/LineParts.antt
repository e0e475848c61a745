-- Meaning. A line that comes in pieces: how much of a piece belongs to it, and what is kept of it.
use Rattle.std.specs.Prelude.{ℕ, ◌+◌, ◌-◌, Bool, true, false, List, length, take, slice_index, position, if◌then◌else◌, ◌==◌, nat_lt, Option, None, Some}
use Rattle.std.specs.Str.Lines.{strip_carriage_return}
use Rattle.block_scanner.specs.declared.limits.TheConstants.{LINE_LIMIT}

-- line feed
abbrev pub is_feed : ℕ → Bool
is_feed byte = byte == 10

-- up to and with the first line feed of so many bytes, or all of them, and whether the line ends there
abbrev pub up_to_feed : Option ℕ → ℕ → ℕ × Bool
up_to_feed None len = (len, false)
up_to_feed (Some at) len = (at + 1, true)

-- how many bytes of a piece belong to its first line, and whether the line ends there
unfoldable pub first_of : List ℕ → ℕ × Bool
first_of piece = up_to_feed (position is_feed piece) (length piece)

-- what is kept of a line: its first bytes, whether it has more than a line may have, and whether its line feed was taken
pub record LinePart : Type 0 where
  pub front : List ℕ
  pub too_long : Bool
  pub ended : Bool

-- what is kept of a line of which these bytes were taken
unfoldable pub part_of : List ℕ → Bool → LinePart
part_of bytes ended = record { front = take LINE_LIMIT bytes; too_long = nat_lt LINE_LIMIT (length bytes); ended = ended }

-- a line without its line feed and a carriage return before that
unfoldable pub without_end : List ℕ → List ℕ
without_end bytes = if slice_index bytes (length bytes - 1) == 10 then strip_carriage_return (take (length bytes - 1) bytes) else bytes

-- what is shown of it: the line without its line end, or what is kept of a line that is too long
unfoldable pub line_of : LinePart → List ℕ
line_of part = if part.too_long then part.front else without_end part.front
