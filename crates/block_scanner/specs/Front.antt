-- Meaning. What stands at a byte of a line.
use Rattle.std.specs.Prelude.{ℕ, ◌+◌, ◌≤◌, ◌&&◌, if◌then◌else◌, List, [], ◌∷◌, drop, Option, Some, None, position}
use Rattle.std.specs.List.{prefix_len}
use Rattle.std.specs.Char.{is_ascii_alphabetic, is_ascii_digit, to_ascii_uppercase}
use Rattle.block_scanner.specs.declared.Kind.TheVariants as kind
use Rattle.block_scanner.specs.declared.Sign.{Sign}
use Rattle.block_scanner.specs.declared.beginnings.Front.{Front}
use Rattle.block_scanner.specs.declared.beginnings.Front.TheVariants.{Blank, Comment, Stands, Forbidden, Unclosed}
use Rattle.block_scanner.specs.Bytes.{is_blank, is_semicolon, is_quote, is_point, is_name_start, is_name_part, begins_with}
use Rattle.block_scanner.specs.Signs.{short_sign, long_sign}

-- a text, with the place of the first quote after the one that opens it
abbrev pub text_front : Option ℕ → Front
text_front (Some place) = Stands kind.Text (place + 1)
text_front None = Unclosed

-- a name begins with two letters or underscores; a letter alone is one whose next byte is neither
unfoldable pub word_front : ℕ → List ℕ → Front
word_front byte following =
    if begins_with is_name_start following then Stands kind.Name (prefix_len is_name_part following)
    else if is_ascii_alphabetic byte then Stands (kind.Letter (to_ascii_uppercase byte)) 0
    else Forbidden

-- how a number goes on after its first digit: digits, and a point with the digits after it
unfoldable pub number_more : List ℕ → ℕ
number_more bytes =
    if begins_with is_point (drop (prefix_len is_ascii_digit bytes) bytes)
    then prefix_len is_ascii_digit bytes + 1 + prefix_len is_ascii_digit (drop (prefix_len is_ascii_digit bytes + 1) bytes)
    else prefix_len is_ascii_digit bytes

abbrev pub one_sign : Option Sign → Front
one_sign (Some sign) = Stands (kind.Sign sign) 0
one_sign None = Forbidden

-- the sign of two bytes, or else that of the first of them
abbrev pub two_or_one_sign : Option Sign → ℕ → Front
two_or_one_sign (Some sign) byte = Stands (kind.Sign sign) 1
two_or_one_sign None byte = one_sign (short_sign byte)

-- the longer sign of two that fit
unfoldable pub sign_front : ℕ → List ℕ → Front
sign_front byte [] = one_sign (short_sign byte)
sign_front byte (second ∷ following) = two_or_one_sign (long_sign byte second) byte

-- what stands at a byte, with those after it
unfoldable pub front : ℕ → List ℕ → Front
front byte following =
    if is_blank byte then Blank
    else if is_semicolon byte then Comment
    else if is_quote byte then text_front (position is_quote following)
    else if is_name_start byte then word_front byte following
    else if is_ascii_digit byte then Stands kind.Number (number_more following)
    else if is_point byte && begins_with is_ascii_digit following then Stands kind.Number (prefix_len is_ascii_digit following)
    else sign_front byte following

-- a token ends within so many bytes after its first
abbrev pub FitsIn : Front → ℕ → Type 0
FitsIn (Stands _ more) room = more ≤ room
FitsIn Blank room = Unit {0}
FitsIn Comment room = Unit {0}
FitsIn Forbidden room = Unit {0}
FitsIn Unclosed room = Unit {0}
