-- Meaning. Whole numbers of job lines.
use Rattle.std.specs.Prelude.{ℕ, ◌+◌, ◌-◌, ◌*◌, Bool, ◌&&◌, not, if◌then◌else◌, ◌==◌, nat_lt, nat_le, List, length, fold, slice_index, Option, Some, None}
use Rattle.std.specs.List.{list_all}
use Rattle.std.specs.Option.{option_and_then}
use Rattle.std.specs.Char.{is_ascii_digit}

-- the number that decimal digits write; 48 is '0'
abbrev pub decimal : List ℕ → ℕ
decimal digits = fold (λ number digit. number * 10 + (digit - 48)) 0 digits

-- from low to high digits and nothing else
unfoldable pub is_digits : ℕ → ℕ → List ℕ → Bool
is_digits low high text = nat_le low (length text) && nat_le (length text) high && list_all is_ascii_digit text

abbrev pub has_leading_zero : List ℕ → Bool
has_leading_zero word = nat_lt 1 (length word) && (slice_index word 0 == 48)

-- one to nine digits without a leading zero
unfoldable pub is_whole : List ℕ → Bool
is_whole word = nat_lt 0 (length word) && nat_lt (length word) 10 && list_all is_ascii_digit word && not (has_leading_zero word)

unfoldable pub whole_of : List ℕ → Option ℕ
whole_of word = if is_whole word then Some (decimal word) else None

-- a whole number from low to high
abbrev pub number_in_range : ℕ → ℕ → ℕ → Option ℕ
number_in_range low high number = if nat_le low number && nat_le number high then Some number else None

-- the whole number from low to high that the word writes
unfoldable pub number_within : ℕ → ℕ → List ℕ → Option ℕ
number_within low high word = option_and_then (number_in_range low high) (whole_of word)
