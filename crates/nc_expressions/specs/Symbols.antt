-- Meaning. The symbols of expressions: what each token of a line means to an expression.
use Rattle.std.specs.Prelude.{zero, suc, ◌*◌, ◌==◌, ◌&&◌, ◌%◌, ◌/◌, ℕ, ℤ, pos, negsuc, Bool, true, false, List, [], ◌∷◌, take, drop, Option, Some, None, nat_lt, if◌then◌else◌, codes}
use Rattle.std.specs.List.{list_all}
use Rattle.std.specs.Char.{is_ascii_digit}
use Rattle.std.specs.Str.{str_eq_ignore_ascii_case}
use Rattle.std.specs.Int.RustNames.{unsigned_abs}
use Rattle.block_scanner.specs.declared.Kind.{Kind}
use Rattle.block_scanner.specs.declared.Kind.TheVariants as kind
use Rattle.block_scanner.specs.declared.Sign.{Sign}
use Rattle.block_scanner.specs.declared.Sign.TheVariants as sign
use Rattle.block_scanner.specs.declared.Token.{Token}
use Rattle.block_scanner.specs.WordsView.{WordsView}
use Rattle.block_scanner.specs.Texts.{text_of}
use Rattle.micro_units.specs.NumberText.{number_of}
use Rattle.nc_expressions.specs.declared.trees.UnaryOp.TheVariants as unary
use Rattle.nc_expressions.specs.declared.trees.BinaryOp.TheVariants as binary
use Rattle.nc_expressions.specs.declared.symbols.Symbol.{Symbol}
use Rattle.nc_expressions.specs.declared.symbols.Symbol.TheVariants.{Number, Truth, Operator, Not, Function, Letter, Open, Close, OpenBracket, CloseBracket, Exponent, Other}
use Rattle.micro_units.specs.declared.limits.TheConstants.{NUMBER_LIMIT}
use Rattle.nc_expressions.specs.declared.limits.TheConstants.{PARAMETER_LIMIT}

-- the value of TRUE and of FALSE
abbrev pub truth : Bool → ℤ
truth true = pos 1000000
truth false = pos 0

-- the number of a parameter: a whole number below their limit
unfoldable pub index_of : ℤ → Option ℕ
index_of (pos n) = if n % 1000000 == 0 && nat_lt n (PARAMETER_LIMIT * 1000000) then Some (n / 1000000) else None
index_of (negsuc n) = None

unfoldable pub sign_symbol : Sign → Symbol
sign_symbol sign.Plus = Operator binary.Add
sign_symbol sign.Minus = Operator binary.Sub
sign_symbol sign.Times = Operator binary.Mul
sign_symbol sign.Slash = Operator binary.Div
sign_symbol sign.Assign = Other
sign_symbol sign.Equal = Operator binary.Equal
sign_symbol sign.NotEqual = Operator binary.NotEqual
sign_symbol sign.Less = Operator binary.Less
sign_symbol sign.Greater = Operator binary.Greater
sign_symbol sign.LessEqual = Operator binary.LessEqual
sign_symbol sign.GreaterEqual = Operator binary.GreaterEqual
sign_symbol sign.OpenParenthesis = Open
sign_symbol sign.CloseParenthesis = Close
sign_symbol sign.OpenBracket = OpenBracket
sign_symbol sign.CloseBracket = CloseBracket
sign_symbol sign.Comma = Other
sign_symbol sign.Colon = Other
sign_symbol sign.Dollar = Other

-- a word, in upper or lower case
abbrev pub is_word : List ℕ → List ℕ → Bool
is_word text word = str_eq_ignore_ascii_case text word

-- TRUE, FALSE and the functions; any other name stands in no expression
unfoldable pub value_symbol : List ℕ → Symbol
value_symbol text =
    if is_word text (codes "TRUE") then Truth true
    else if is_word text (codes "FALSE") then Truth false
    else if is_word text (codes "ABS") then Function unary.Abs
    else if is_word text (codes "SQRT") then Function unary.Sqrt
    else if is_word text (codes "POT") then Function unary.Pot
    else if is_word text (codes "TRUNC") then Function unary.Trunc
    else if is_word text (codes "ROUND") then Function unary.Round
    else Other

unfoldable pub name_symbol : List ℕ → Symbol
name_symbol text =
    if is_word text (codes "DIV") then Operator binary.WholeDiv
    else if is_word text (codes "MOD") then Operator binary.Modulo
    else if is_word text (codes "AND") then Operator binary.And
    else if is_word text (codes "OR") then Operator binary.Or
    else if is_word text (codes "XOR") then Operator binary.Xor
    else if is_word text (codes "NOT") then Not
    else value_symbol text

-- digits alone, without a point
abbrev pub is_digits : List ℕ → Bool
is_digits text = list_all is_ascii_digit text

-- a number, and whether it is digits alone; one that is out of range stands in no expression
unfoldable pub number_symbol : Option ℤ → Bool → Symbol
number_symbol (Some z) digits = if nat_lt (unsigned_abs z) NUMBER_LIMIT then Number z digits else Other
number_symbol None digits = Other

-- 82 is 'R'
unfoldable pub kind_symbol : Kind → List ℕ → Symbol
kind_symbol (kind.Letter b) text = if b == 82 then Letter else Other
kind_symbol kind.Name text = name_symbol text
kind_symbol kind.Number text = number_symbol (number_of text) (is_digits text)
kind_symbol kind.Text text = Other
kind_symbol (kind.Sign s) text = sign_symbol s

-- an E, or EX alone or with digits after it; 69 is 'E'
unfoldable pub is_exponent : Kind → List ℕ → Bool
is_exponent (kind.Letter b) text = b == 69
is_exponent kind.Name text = is_word (take 2 text) (codes "EX") && is_digits (drop 2 text)
is_exponent kind.Number text = false
is_exponent kind.Text text = false
is_exponent (kind.Sign s) text = false

abbrev pub is_number_kind : Kind → Bool
is_number_kind (kind.Letter b) = false
is_number_kind kind.Name = false
is_number_kind kind.Number = true
is_number_kind kind.Text = false
is_number_kind (kind.Sign s) = false

-- directly after a number, with no blank between
abbrev pub touches_number : Option Token → Token → Bool
touches_number None token = false
touches_number (Some before) token = is_number_kind before.kind && before.end == token.start

-- the symbol of a token, with the token before it
unfoldable pub symbol_of : List ℕ → Option Token → Token → Symbol
symbol_of line before token =
    if touches_number before token && is_exponent token.kind (text_of line token)
    then Exponent
    else kind_symbol token.kind (text_of line token)

abbrev pub symbols_after : List ℕ → Option Token → List Token → List Symbol
symbols_after line before [] = []
symbols_after line before (token ∷ tokens) = symbol_of line before token ∷ symbols_after line (Some token) tokens

-- the symbols of a line
unfoldable pub symbols_of : WordsView → List Symbol
symbols_of words = symbols_after words.line None words.tokens

-- the token before a place
abbrev pub token_before : Option Token → List Token → ℕ → Option Token
token_before before tokens zero = before
token_before before [] (suc at) = before
token_before before (token ∷ tokens) (suc at) = token_before (Some token) tokens at
