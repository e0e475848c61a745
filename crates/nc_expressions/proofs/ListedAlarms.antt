-- The alarms of expressions are in the table of alarms.
use Rattle.std.proofs.Common.{ℕ, ℤ, pos, ◌^◌, Bool, true, false, cond, nat_lt, int_lt, Option, None, Some, Result, Ok, Err, refl}
use Rattle.std.specs.Prelude.{⊤}
use Rattle.std.specs.Ordering.{int_eq}
use Rattle.std.specs.Int.RustNames.{unsigned_abs}
use Rattle.fault_codes.specs.Codes.{IsAlarmCode, alarm_codes}
use Rattle.micro_units.specs.Arithmetic.{square_root}
use Rattle.nc_expressions.specs.declared.trees.UnaryOp.{UnaryOp}
use Rattle.nc_expressions.specs.declared.trees.UnaryOp.TheVariants.{Minus, Not, Abs, Sqrt, Pot, Trunc, Round}
use Rattle.nc_expressions.specs.declared.trees.BinaryOp.{BinaryOp}
use Rattle.nc_expressions.specs.declared.trees.BinaryOp.TheVariants.{Add, Sub, Mul, Div, WholeDiv, Modulo, And, Or, Xor, Equal, NotEqual, Greater, Less, GreaterEqual, LessEqual}
use Rattle.nc_expressions.specs.Symbols.{index_of}
use Rattle.nc_expressions.specs.Tree.{Tree, Number, Parameter, Indexed, Unary, Binary}
use Rattle.nc_expressions.specs.Value.{◌>>=◌, in_range_or_alarm, quotient_or_alarm, root_or_alarm, unary_value, binary_value, at_index, value_of}
use Rattle.nc_expressions.specs.Values.{Values}

-- an alarm, where one comes, is in the table
abbrev pub IsListed : {A : Type 0} → Result A ℕ → Type 0
IsListed (Ok x) = ⊤
IsListed (Err code) = IsAlarmCode code

pub bind_listed : {A B : Type 0} (r : Result A ℕ) (f : A → Result B ℕ) → IsListed r → ((x : A) → IsListed (f x)) → IsListed (r >>= f)
bind_listed (Ok x) f first rest = rest x
bind_listed (Err code) f first rest = first

pub checked_listed : (z : ℤ) → IsListed (in_range_or_alarm z)
unfolding in_range_or_alarm IsAlarmCode alarm_codes
checked_listed z = by_size (nat_lt (unsigned_abs z) (10 ^ 14))
  where
    by_size : (b : Bool) → IsListed (cond b (Ok z) (Err 1))
    by_size true = tt
    by_size false = refl

divided_listed : (divisor : ℤ) (value : Result ℤ ℕ) → IsListed value → IsListed (quotient_or_alarm divisor value)
unfolding quotient_or_alarm IsAlarmCode alarm_codes
divided_listed divisor value listed = by_zero (int_eq divisor (pos 0))
  where
    by_zero : (b : Bool) → IsListed (cond b (Err 2) value)
    by_zero true = refl
    by_zero false = listed

rooted_listed : (z : ℤ) → IsListed (root_or_alarm z)
unfolding root_or_alarm IsAlarmCode alarm_codes
rooted_listed z = by_sign (int_lt z (pos 0))
  where
    by_sign : (b : Bool) → IsListed (cond b (Err 3) (Ok (square_root z)))
    by_sign true = refl
    by_sign false = tt

unary_listed : (op : UnaryOp) (z : ℤ) → IsListed (unary_value op z)
unfolding unary_value
unary_listed Minus z = tt
unary_listed Not z = tt
unary_listed Abs z = tt
unary_listed Sqrt z = rooted_listed z
unary_listed Pot z = checked_listed _
unary_listed Trunc z = tt
unary_listed Round z = checked_listed _

binary_listed : (op : BinaryOp) (x y : ℤ) → IsListed (binary_value op x y)
unfolding binary_value
binary_listed Add x y = checked_listed _
binary_listed Sub x y = checked_listed _
binary_listed Mul x y = checked_listed _
binary_listed Div x y = divided_listed y _ (checked_listed _)
binary_listed WholeDiv x y = divided_listed y _ (checked_listed _)
binary_listed Modulo x y = divided_listed y _ tt
binary_listed And x y = tt
binary_listed Or x y = tt
binary_listed Xor x y = tt
binary_listed Equal x y = tt
binary_listed NotEqual x y = tt
binary_listed Greater x y = tt
binary_listed Less x y = tt
binary_listed GreaterEqual x y = tt
binary_listed LessEqual x y = tt

pub at_index_listed : (values : Values) (o : Option ℕ) → IsListed (at_index values o)
unfolding IsAlarmCode alarm_codes
at_index_listed values None = refl
at_index_listed values (Some i) = tt

pub value_listed : (values : Values) (tree : Tree) → IsListed (value_of values tree)
value_listed values (Number n) = tt
value_listed values (Parameter i) = tt
value_listed values (Indexed t) =
    bind_listed (value_of values t) (λ z. at_index values (index_of z)) (value_listed values t) (λ z. at_index_listed values (index_of z))
value_listed values (Unary op t) = bind_listed (value_of values t) (λ z. unary_value op z) (value_listed values t) (λ z. unary_listed op z)
value_listed values (Binary op a b) =
    bind_listed (value_of values a) (λ x. value_of values b >>= λ y. binary_value op x y) (value_listed values a)
    (λ x. bind_listed (value_of values b) (λ y. binary_value op x y) (value_listed values b) (λ y. binary_listed op x y))
