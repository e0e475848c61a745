-- Meaning. Lengths, in millimetres as a line writes them, in micrometres as a job holds them.
use Rattle.std.specs.Prelude.{ℕ, ◌+◌, ℤ, neg_ℤ, Bool, ◌&&◌, if◌then◌else◌, ◌==◌, List, [], ◌∷◌, take, drop, position, Result, Option, Some, None}
use Rattle.std.specs.Option.{option_and_then, option_map}
use Rattle.micro_units.specs.Rounding.{half_away}
use Rattle.micro_units.specs.NumberText.{is_point, number_of}
use Rattle.job_lines.specs.declared.code.Code.{Code}
use Rattle.job_lines.specs.declared.code.Code.TheVariants.{OutOfRange}
use Rattle.job_lines.specs.Code.{or_code}
use Rattle.job_lines.specs.Numbers.{is_digits}
use Rattle.micro_units.specs.Position.{is_position}

-- one to five digits, and after a point one to three
abbrev pub is_size_at : List ℕ → Option ℕ → Bool
is_size_at text None = is_digits 1 5 text
is_size_at text (Some place) = is_digits 1 5 (take place text) && is_digits 1 3 (drop (place + 1) text)

unfoldable pub is_size : List ℕ → Bool
is_size text = is_size_at text (position is_point text)

-- the micrometres where they are a position
unfoldable pub in_reach : ℤ → Option ℤ
in_reach micrometres = if is_position micrometres then Some micrometres else None

-- the size of a length, without its sign: what the number is in whole micrometres
unfoldable pub size_of : List ℕ → Option ℤ
size_of text = if is_size text then option_and_then (λ millionths. in_reach (half_away millionths 1000)) (number_of text) else None

-- 45 is '-' and 43 is '+'
unfoldable pub signed_size_of : List ℕ → Option ℤ
signed_size_of [] = size_of []
signed_size_of (sign ∷ text) =
    if sign == 45 then option_map neg_ℤ (size_of text)
    else if sign == 43 then size_of text
    else size_of (sign ∷ text)

unfoldable pub length_of : List ℕ → Result ℤ Code
length_of word = or_code OutOfRange (signed_size_of word)
