-- Meaning. What kinds of tokens are to a refused line.
use Rattle.std.specs.Prelude.{ℕ, Bool, true, false, ◌+◌, ◌-◌, ◌==◌, if◌then◌else◌}
use Rattle.block_scanner.specs.declared.Kind.{Kind}
use Rattle.block_scanner.specs.declared.Kind.TheVariants.{Letter, Name, Number, Sign}
use Rattle.block_scanner.specs.declared.Sign.TheVariants.{Slash, OpenParenthesis, CloseParenthesis, OpenBracket, CloseBracket, Comma, Colon}

abbrev pub is_letter : Kind → ℕ → Bool
is_letter (Letter other) letter = other == letter
is_letter kind letter = false

abbrev pub is_some_letter : Kind → Bool
is_some_letter (Letter letter) = true
is_some_letter kind = false

abbrev pub is_name : Kind → Bool
is_name Name = true
is_name kind = false

abbrev pub is_number : Kind → Bool
is_number Number = true
is_number kind = false

-- '/'
abbrev pub is_slash : Kind → Bool
is_slash (Sign Slash) = true
is_slash kind = false

-- ':'
abbrev pub is_colon : Kind → Bool
is_colon (Sign Colon) = true
is_colon kind = false

-- ','
abbrev pub is_comma : Kind → Bool
is_comma (Sign Comma) = true
is_comma kind = false

-- '('
abbrev pub is_parenthesis : Kind → Bool
is_parenthesis (Sign OpenParenthesis) = true
is_parenthesis kind = false

-- '(' and '['
abbrev pub does_open : Kind → Bool
does_open (Sign OpenParenthesis) = true
does_open (Sign OpenBracket) = true
does_open kind = false

-- ')' and ']'
abbrev pub does_close : Kind → Bool
does_close (Sign CloseParenthesis) = true
does_close (Sign CloseBracket) = true
does_close kind = false

-- how many parentheses and brackets are open after a token of this kind, where so many are before it
unfoldable pub depth_after : Kind → ℕ → ℕ
depth_after kind depth = if does_open kind then depth + 1 else if does_close kind then depth - 1 else depth
