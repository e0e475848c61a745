-- Meaning. The value of an expression, or its first alarm from left to right.
use Rattle.std.specs.Prelude.{ℕ, ℤ, pos, Bool, true, false, not, ◌&&◌, ◌||◌, Option, Some, None, Result, Ok, Err, nat_lt, int_lt, if◌then◌else◌, ◌+ℤ◌, ◌-ℤ◌, neg_ℤ}
use Rattle.std.specs.Ordering.{int_eq}
use Rattle.std.specs.Int.RustNames.{unsigned_abs}
use Rattle.micro_units.specs.Arithmetic.{product, quotient, whole_quotient, remainder, square_root, whole_part, nearest_whole}
use Rattle.micro_units.specs.declared.Num.{Num}
use Rattle.micro_units.specs.declared.NumFault.{NumFault}
use Rattle.micro_units.specs.declared.NumFault.TheVariants.{NotANumber, TooLarge, DivideByZero, NegativeRoot}
use Rattle.nc_expressions.specs.declared.trees.UnaryOp.{UnaryOp}
use Rattle.nc_expressions.specs.declared.trees.UnaryOp.TheVariants.{Minus, Not, Abs, Sqrt, Pot, Trunc, Round}
use Rattle.nc_expressions.specs.declared.trees.BinaryOp.{BinaryOp}
use Rattle.nc_expressions.specs.declared.trees.BinaryOp.TheVariants.{Add, Sub, Mul, Div, WholeDiv, Modulo, And, Or, Xor, Equal, NotEqual, Greater, Less, GreaterEqual, LessEqual}
use Rattle.nc_expressions.specs.Symbols.{truth, index_of}
use Rattle.nc_expressions.specs.Tree.{Tree, Number, Parameter, Indexed, Unary, Binary}
use Rattle.nc_expressions.specs.Values.{Values}
use Rattle.micro_units.specs.declared.limits.TheConstants.{NUMBER_LIMIT}
use Rattle.fault_codes.specs.declared.alarms.TheConstants.{NUMBER_TOO_LARGE, DIVISION_BY_ZERO, NEGATIVE_ROOT, PARAMETER_INDEX}

infixl 10 ◌>>=◌
abbrev pub ◌>>=◌ : {A B : Type 0} → Result A ℕ → (A → Result B ℕ) → Result B ℕ
Ok x >>= f = f x
Err alarm >>= f = Err alarm

-- an alarm where a result is out of range
unfoldable pub in_range_or_alarm : ℤ → Result ℤ ℕ
in_range_or_alarm z = if nat_lt (unsigned_abs z) NUMBER_LIMIT then Ok z else Err NUMBER_TOO_LARGE

-- an alarm where the divisor is 0
unfoldable pub quotient_or_alarm : ℤ → Result ℤ ℕ → Result ℤ ℕ
quotient_or_alarm divisor value = if int_eq divisor (pos 0) then Err DIVISION_BY_ZERO else value

-- an alarm where the root of a negative number is asked for
unfoldable pub root_or_alarm : ℤ → Result ℤ ℕ
root_or_alarm z = if int_lt z (pos 0) then Err NEGATIVE_ROOT else Ok (square_root z)

-- a number other than 0 counts as true
abbrev pub is_true : ℤ → Bool
is_true z = not (int_eq z (pos 0))

-- one of the two, and not both
abbrev pub either : Bool → Bool → Bool
either true b = not b
either false b = b

unfoldable pub unary_value : UnaryOp → ℤ → Result ℤ ℕ
unary_value Minus z = Ok (neg_ℤ z)
unary_value Not z = Ok (truth (not (is_true z)))
unary_value Abs z = Ok (pos (unsigned_abs z))
unary_value Sqrt z = root_or_alarm z
unary_value Pot z = in_range_or_alarm (product z z)
unary_value Trunc z = Ok (whole_part z)
unary_value Round z = in_range_or_alarm (nearest_whole z)

unfoldable pub binary_value : BinaryOp → ℤ → ℤ → Result ℤ ℕ
binary_value Add x y = in_range_or_alarm (x +ℤ y)
binary_value Sub x y = in_range_or_alarm (x -ℤ y)
binary_value Mul x y = in_range_or_alarm (product x y)
binary_value Div x y = quotient_or_alarm y (in_range_or_alarm (quotient x y))
binary_value WholeDiv x y = quotient_or_alarm y (in_range_or_alarm (whole_quotient x y))
binary_value Modulo x y = quotient_or_alarm y (Ok (remainder x y))
binary_value And x y = Ok (truth (is_true x && is_true y))
binary_value Or x y = Ok (truth (is_true x || is_true y))
binary_value Xor x y = Ok (truth (either (is_true x) (is_true y)))
binary_value Equal x y = Ok (truth (int_eq x y))
binary_value NotEqual x y = Ok (truth (not (int_eq x y)))
binary_value Greater x y = Ok (truth (int_lt y x))
binary_value Less x y = Ok (truth (int_lt x y))
binary_value GreaterEqual x y = Ok (truth (not (int_lt x y)))
binary_value LessEqual x y = Ok (truth (not (int_lt y x)))

-- an alarm where an index is no number of a parameter
abbrev pub at_index : Values → Option ℕ → Result ℤ ℕ
at_index values (Some i) = Ok (values.parameter i)
at_index values None = Err PARAMETER_INDEX

-- the value where an expression reads these values
abbrev pub value_of : Values → Tree → Result ℤ ℕ
value_of values (Number n) = Ok n
value_of values (Parameter i) = Ok (values.parameter i)
value_of values (Indexed t) = value_of values t >>= λ z. at_index values (index_of z)
value_of values (Unary op t) = value_of values t >>= λ z. unary_value op z
value_of values (Binary op a b) =
    value_of values a >>= λ x. value_of values b >>= λ y. binary_value op x y

-- a number, or the alarm in place of its fault
abbrev pub number_or_alarm : Result Num NumFault → Result ℤ ℕ
number_or_alarm (Ok n) = Ok n
number_or_alarm (Err DivideByZero) = Err DIVISION_BY_ZERO
number_or_alarm (Err NegativeRoot) = Err NEGATIVE_ROOT
number_or_alarm (Err TooLarge) = Err NUMBER_TOO_LARGE
number_or_alarm (Err NotANumber) = Err NUMBER_TOO_LARGE
