-- Meaning. Reading an expression symbol by symbol, with a stack of what waits.
use Rattle.std.specs.Prelude.{◌+◌, ℕ, Bool, true, false, List, [], ◌∷◌, Option, Some, None, Result, Ok, Err, nat_le, if◌then◌else◌}
use Rattle.nc_expressions.specs.declared.trees.UnaryOp.{UnaryOp}
use Rattle.nc_expressions.specs.declared.trees.UnaryOp.TheVariants as unary
use Rattle.nc_expressions.specs.declared.trees.BinaryOp.{BinaryOp}
use Rattle.nc_expressions.specs.declared.trees.BinaryOp.TheVariants.{Add, Sub, Mul, Div, WholeDiv, Modulo, And, Or, Xor, Equal, NotEqual, Greater, Less, GreaterEqual, LessEqual}
use Rattle.nc_expressions.specs.declared.levels.Level.{Level}
use Rattle.nc_expressions.specs.declared.levels.Level.TheVariants.{Plain}
use Rattle.nc_expressions.specs.declared.symbols.Symbol.{Symbol}
use Rattle.nc_expressions.specs.declared.symbols.Symbol.TheVariants as symbol
use Rattle.nc_expressions.specs.declared.stack.Bracket.{Bracket}
use Rattle.nc_expressions.specs.declared.stack.Bracket.TheVariants.{Parentheses, Argument, Index}
use Rattle.nc_expressions.specs.Tree.{Tree, Number, Parameter, Indexed, Unary, Binary}
use Rattle.nc_expressions.specs.Levels.{connecting, rank, kind, joint_level, clash}
use Rattle.nc_expressions.specs.Limits.{Limits, has_room}
use Rattle.nc_expressions.specs.Symbols.{truth, index_of}

-- a sign or NOT that waits for its operand, a left operand that waits for the right one, or an open bracket with the level around it
pub data Pending : Type 0 where
  Prefix : UnaryOp → Pending
  Left : Tree → BinaryOp → Pending
  Opened : Bracket → Level → Pending

-- the innermost first
abbrev pub Stack : Type 0
Stack = List Pending

-- an operand is wanted; so is what stands after R, or after a function's name; or an operand has ended
pub data State : Type 0 where
  Wants : Stack → Level → State
  WantsIndex : Stack → Level → State
  WantsArgument : UnaryOp → Stack → Level → State
  Has : Tree → Stack → Level → State

pub data Next : Type 0 where
  On : State → Next
  Ends : Tree → Next
  Refuse : (code : ℕ) → Next

-- an open parenthesis, of a function or not
abbrev pub is_parenthesis : Pending → Bool
is_parenthesis (Prefix op) = false
is_parenthesis (Left a op) = false
is_parenthesis (Opened Parentheses lv) = true
is_parenthesis (Opened (Argument f) lv) = true
is_parenthesis (Opened Index lv) = false

-- how many parentheses are open
abbrev pub depth : Stack → ℕ
depth [] = 0
depth (one ∷ st) = if is_parenthesis one then depth st + 1 else depth st

-- the signs before an operand take it
abbrev pub attach : Tree → Stack → Tree × Stack
attach t [] = (t, [])
attach t (Prefix op ∷ st) = attach (Unary op t) st
attach t (Left a op ∷ st) = (t, Left a op ∷ st)
attach t (Opened b lv ∷ st) = (t, Opened b lv ∷ st)

-- the operators before an operand that bind at least so tightly take it
abbrev pub join : ℕ → Tree → Stack → Tree × Stack
join r t [] = (t, [])
join r t (Prefix op ∷ st) = (t, Prefix op ∷ st)
join r t (Left a op ∷ st) = if nat_le r (rank op) then join r (Binary op a t) st else (t, Left a op ∷ st)
join r t (Opened b lv ∷ st) = (t, Opened b lv ∷ st)

abbrev pub state_with_tree : Level → Tree × Stack → State
state_with_tree lv p = Has p.0 p.1 lv

unfoldable pub next_in_bracket : Limits → Bracket → Stack → Level → Next
next_in_bracket limits b st lv = if has_room limits (depth st) then On (Wants (Opened b lv ∷ st) Plain) else Refuse 26

abbrev pub with_prefix : Option Level → ℕ → UnaryOp → Stack → Next
with_prefix (Some lv) code op st = On (Wants (Prefix op ∷ st) lv)
with_prefix None code op st = Refuse code

abbrev pub with_left : Option Level → ℕ → BinaryOp → Tree × Stack → Next
with_left (Some lv) code op p = On (Wants (Left p.0 op ∷ p.1) lv)
with_left None code op p = Refuse code

abbrev pub with_parameter : Option ℕ → Stack → Level → Next
with_parameter (Some i) st lv = On (state_with_tree lv (attach (Parameter i) st))
with_parameter None st lv = Refuse 22

unfoldable pub on_sign : BinaryOp → Stack → Level → Next
on_sign Add st lv = On (Wants st lv)
on_sign Sub st lv = On (Wants (Prefix unary.Minus ∷ st) lv)
on_sign Mul st lv = Refuse 22
on_sign Div st lv = Refuse 22
on_sign WholeDiv st lv = Refuse 22
on_sign Modulo st lv = Refuse 22
on_sign And st lv = Refuse 22
on_sign Or st lv = Refuse 22
on_sign Xor st lv = Refuse 22
on_sign Equal st lv = Refuse 22
on_sign NotEqual st lv = Refuse 22
on_sign Greater st lv = Refuse 22
on_sign Less st lv = Refuse 22
on_sign GreaterEqual st lv = Refuse 22
on_sign LessEqual st lv = Refuse 22

unfoldable pub on_operand : Limits → Stack → Level → Symbol → Next
on_operand limits st lv (symbol.Number z digits) = On (state_with_tree lv (attach (Number z) st))
on_operand limits st lv (symbol.Truth b) = On (state_with_tree lv (attach (Number (truth b)) st))
on_operand limits st lv (symbol.Operator op) = on_sign op st lv
on_operand limits st lv symbol.Not = with_prefix (joint_level lv (connecting limits)) (clash lv (connecting limits)) unary.Not st
on_operand limits st lv (symbol.Function f) = On (WantsArgument f st lv)
on_operand limits st lv symbol.Letter = On (WantsIndex st lv)
on_operand limits st lv symbol.Open = next_in_bracket limits Parentheses st lv
on_operand limits st lv symbol.Close = Refuse 22
on_operand limits st lv symbol.OpenBracket = Refuse 22
on_operand limits st lv symbol.CloseBracket = Refuse 22
on_operand limits st lv symbol.Exponent = Refuse 22
on_operand limits st lv symbol.Other = Refuse 22

-- after R; a number with a point is none of a parameter
unfoldable pub on_index : Stack → Level → Symbol → Next
on_index st lv (symbol.Number z true) = with_parameter (index_of z) st lv
on_index st lv (symbol.Number z false) = Refuse 22
on_index st lv (symbol.Truth b) = Refuse 22
on_index st lv (symbol.Operator op) = Refuse 22
on_index st lv symbol.Not = Refuse 22
on_index st lv (symbol.Function f) = Refuse 22
on_index st lv symbol.Letter = Refuse 22
on_index st lv symbol.Open = Refuse 22
on_index st lv symbol.Close = Refuse 22
on_index st lv symbol.OpenBracket = On (Wants (Opened Index lv ∷ st) Plain)
on_index st lv symbol.CloseBracket = Refuse 22
on_index st lv symbol.Exponent = Refuse 22
on_index st lv symbol.Other = Refuse 22

-- after a function's name
unfoldable pub on_argument : Limits → UnaryOp → Stack → Level → Symbol → Next
on_argument limits f st lv (symbol.Number z digits) = Refuse 22
on_argument limits f st lv (symbol.Truth b) = Refuse 22
on_argument limits f st lv (symbol.Operator op) = Refuse 22
on_argument limits f st lv symbol.Not = Refuse 22
on_argument limits f st lv (symbol.Function g) = Refuse 22
on_argument limits f st lv symbol.Letter = Refuse 22
on_argument limits f st lv symbol.Open = next_in_bracket limits (Argument f) st lv
on_argument limits f st lv symbol.Close = Refuse 22
on_argument limits f st lv symbol.OpenBracket = Refuse 22
on_argument limits f st lv symbol.CloseBracket = Refuse 22
on_argument limits f st lv symbol.Exponent = Refuse 22
on_argument limits f st lv symbol.Other = Refuse 22

unfoldable pub on_operator : Limits → BinaryOp → Tree × Stack → Level → Next
on_operator limits op p lv = with_left (joint_level lv (kind limits op)) (clash lv (kind limits op)) op p

-- a closing parenthesis, or a closing bracket, after an operand that nothing else waits for
abbrev pub close_parenthesis : Tree → Stack → Next
close_parenthesis t [] = Ends t
close_parenthesis t (Prefix op ∷ st) = Refuse 22
close_parenthesis t (Left a op ∷ st) = Refuse 22
close_parenthesis t (Opened Parentheses lv ∷ st) = On (state_with_tree lv (attach t st))
close_parenthesis t (Opened (Argument f) lv ∷ st) = On (state_with_tree lv (attach (Unary f t) st))
close_parenthesis t (Opened Index lv ∷ st) = Refuse 22

abbrev pub close_bracket : Tree → Stack → Next
close_bracket t [] = Ends t
close_bracket t (Prefix op ∷ st) = Refuse 22
close_bracket t (Left a op ∷ st) = Refuse 22
close_bracket t (Opened Parentheses lv ∷ st) = Refuse 22
close_bracket t (Opened (Argument f) lv ∷ st) = Refuse 22
close_bracket t (Opened Index lv ∷ st) = On (state_with_tree lv (attach (Indexed t) st))

-- what is no part of an expression ends it where no bracket is open
abbrev pub stop : Tree → Stack → Next
stop t [] = Ends t
stop t (one ∷ st) = Refuse 22

unfoldable pub on_close : Tree × Stack → Next
on_close p = close_parenthesis p.0 p.1

unfoldable pub on_close_bracket : Tree × Stack → Next
on_close_bracket p = close_bracket p.0 p.1

unfoldable pub on_other : Tree × Stack → Next
on_other p = stop p.0 p.1

unfoldable pub on_ended : Limits → Tree → Stack → Level → Symbol → Next
on_ended limits t st lv (symbol.Number z digits) = on_other (join 0 t st)
on_ended limits t st lv (symbol.Truth b) = on_other (join 0 t st)
on_ended limits t st lv (symbol.Operator op) = on_operator limits op (join (rank op) t st) lv
on_ended limits t st lv symbol.Not = on_other (join 0 t st)
on_ended limits t st lv (symbol.Function f) = on_other (join 0 t st)
on_ended limits t st lv symbol.Letter = on_other (join 0 t st)
on_ended limits t st lv symbol.Open = on_other (join 0 t st)
on_ended limits t st lv symbol.Close = on_close (join 0 t st)
on_ended limits t st lv symbol.OpenBracket = on_other (join 0 t st)
on_ended limits t st lv symbol.CloseBracket = on_close_bracket (join 0 t st)
on_ended limits t st lv symbol.Exponent = Refuse 22
on_ended limits t st lv symbol.Other = on_other (join 0 t st)

unfoldable pub step : Limits → State → Symbol → Next
step limits (Wants st lv) s = on_operand limits st lv s
step limits (WantsIndex st lv) s = on_index st lv s
step limits (WantsArgument f st lv) s = on_argument limits f st lv s
step limits (Has t st lv) s = on_ended limits t st lv s

-- at the end of the symbols
unfoldable pub finish : State → Next
finish (Wants st lv) = Refuse 22
finish (WantsIndex st lv) = Refuse 22
finish (WantsArgument f st lv) = Refuse 22
finish (Has t st lv) = on_other (join 0 t st)

-- the tree, and the symbols that are no more of the expression; or the refusal
abbrev pub Reading : Type 0
Reading = Result (Tree × List Symbol) ℕ

abbrev pub at_last : Next → Reading
at_last (On s) = Err 22
at_last (Ends t) = Ok (t, [])
at_last (Refuse code) = Err code

abbrev pub go_on : Next → List Symbol → (State → Reading) → Reading
go_on (On s) ss rest = rest s
go_on (Ends t) ss rest = Ok (t, ss)
go_on (Refuse code) ss rest = Err code

unfoldable pub run : Limits → List Symbol → State → Reading
run limits [] state = at_last (finish state)
run limits (s ∷ ss) state = go_on (step limits state s) (s ∷ ss) (run limits ss)

unfoldable pub read : Limits → List Symbol → Reading
read limits ss = run limits ss (Wants [] Plain)
