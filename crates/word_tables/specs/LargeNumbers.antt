-- Meaning. Numbers of a line that are out of range.
use Rattle.std.specs.Prelude.{ℕ, ℤ, Bool, false, not, nat_lt, List, Option, Some, None}
use Rattle.std.specs.List.{list_any}
use Rattle.std.specs.Int.RustNames.{unsigned_abs}
use Rattle.block_scanner.specs.declared.Kind.{Kind}
use Rattle.block_scanner.specs.declared.Kind.TheVariants.{Letter, Name, Number, Text, Sign}
use Rattle.block_scanner.specs.declared.Token.{Token}
use Rattle.block_scanner.specs.Texts.{text_of}
use Rattle.micro_units.specs.NumberText.{number_of}
use Rattle.micro_units.specs.declared.limits.TheConstants.{NUMBER_LIMIT}

-- millionths that are out of range
abbrev pub is_large : Option ℤ → Bool
is_large (Some millionths) = not (nat_lt (unsigned_abs millionths) NUMBER_LIMIT)
is_large None = false

-- a token of this kind and text is a number out of range
unfoldable pub is_large_kind : Kind → List ℕ → Bool
is_large_kind Number text = is_large (number_of text)
is_large_kind (Letter letter) text = false
is_large_kind Name text = false
is_large_kind Text text = false
is_large_kind (Sign sign) text = false

abbrev pub is_large_token : List ℕ → Token → Bool
is_large_token line token = is_large_kind token.kind (text_of line token)

-- some number of a line is out of range
abbrev pub has_large_number : List ℕ → List Token → Bool
has_large_number line tokens = list_any (λ token. is_large_token line token) tokens
