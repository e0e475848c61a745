-- Meaning. The signs by their bytes.
use Rattle.std.specs.Prelude.{ℕ, ◌&&◌, ◌==◌, if◌then◌else◌, List, Option, Some, None, codes}
use Rattle.block_scanner.specs.declared.Sign.{Sign}
use Rattle.block_scanner.specs.declared.Sign.TheVariants.{Plus, Minus, Times, Slash, Assign, Equal, NotEqual, Less, Greater, LessEqual, GreaterEqual, OpenParenthesis, CloseParenthesis, OpenBracket, CloseBracket, Comma, Colon, Dollar}

-- what writes a sign
abbrev pub spelling : Sign → List ℕ
spelling Plus = codes "+"
spelling Minus = codes "-"
spelling Times = codes "*"
spelling Slash = codes "/"
spelling Assign = codes "="
spelling Equal = codes "=="
spelling NotEqual = codes "<>"
spelling Less = codes "<"
spelling Greater = codes ">"
spelling LessEqual = codes "<="
spelling GreaterEqual = codes ">="
spelling OpenParenthesis = codes "("
spelling CloseParenthesis = codes ")"
spelling OpenBracket = codes "["
spelling CloseBracket = codes "]"
spelling Comma = codes ","
spelling Colon = codes ":"
spelling Dollar = codes "$"

-- the sign that one byte writes
unfoldable pub short_sign : ℕ → Option Sign
short_sign byte =
    if byte == 43 then Some Plus
    else if byte == 45 then Some Minus
    else if byte == 42 then Some Times
    else if byte == 47 then Some Slash
    else if byte == 61 then Some Assign
    else if byte == 60 then Some Less
    else if byte == 62 then Some Greater
    else if byte == 40 then Some OpenParenthesis
    else if byte == 41 then Some CloseParenthesis
    else if byte == 91 then Some OpenBracket
    else if byte == 93 then Some CloseBracket
    else if byte == 44 then Some Comma
    else if byte == 58 then Some Colon
    else if byte == 36 then Some Dollar
    else None

-- the sign that two bytes write: "==", "<>", "<=" or ">="
unfoldable pub long_sign : ℕ → ℕ → Option Sign
long_sign first second =
    if (first == 61) && (second == 61) then Some Equal
    else if (first == 60) && (second == 62) then Some NotEqual
    else if (first == 60) && (second == 61) then Some LessEqual
    else if (first == 62) && (second == 61) then Some GreaterEqual
    else None
