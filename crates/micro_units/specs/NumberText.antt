-- Meaning. A number as text.
use Rattle.std.specs.Prelude.{ℕ, ◌+◌, ◌-◌, ◌*◌, ◌^◌, ℤ, pos, Bool, ◌&&◌, if◌then◌else◌, ◌==◌, nat_lt, List, ◌++◌, length, fold, take, Option, Some, None}
use Rattle.std.specs.List.{list_all, before_first, after_first}
use Rattle.std.specs.Char.{is_ascii_digit}
use Rattle.micro_units.specs.Rounding.{half_away}

-- '.'
abbrev pub is_point : ℕ → Bool
is_point byte = byte == 46

-- what a number becomes by one digit more after it; 48 is '0'
abbrev pub with_digit : ℕ → ℕ → ℕ
with_digit number digit = number * 10 + (digit - 48)

-- the number that decimal digits write
abbrev pub decimal : List ℕ → ℕ
decimal digits = fold with_digit 0 digits

-- what stands after the first point, and the text without that point
abbrev pub decimals_of : List ℕ → List ℕ
decimals_of text = after_first is_point text

abbrev pub digits_of : List ℕ → List ℕ
digits_of text = before_first is_point text ++ decimals_of text

-- digits with at most one point among, before or after them; at least one digit
abbrev pub is_number : List ℕ → Bool
is_number text = list_all is_ascii_digit (digits_of text) && nat_lt 0 (length (digits_of text))

-- the number that a text writes, rounded once to whole millionths
unfoldable pub number_of : List ℕ → Option ℤ
number_of text =
    if is_number text
    then Some (half_away (pos (decimal (digits_of text) * 1000000)) (10 ^ length (decimals_of text)))
    else None

-- the digits that decide the rounding: those before the point and the first seven after it
abbrev pub kept_digits : List ℕ → List ℕ
kept_digits text = before_first is_point text ++ take 7 (decimals_of text)
