-- Meaning. Which parameters a block reads. What it gives a value it does not read by that.
use Rattle.std.specs.Prelude.{ℕ, ℤ, ◌==◌, ◌||◌, Bool, false, Option, Some, None, Result, Ok, Err}
use Rattle.std.specs.List.{list_any}
use Rattle.nc_blocks.specs.Statement.{OperandView, Value, Text, AxisName, WordView, Assign, AssignAt, G, Axis, Radius, Aux, End, Statement, Empty, WordBlock, Jump, IfJump, If, Else, EndIf, While, EndWhile, Repeat, Until, Loop, EndLoop, For, EndFor, Case, RepeatFrom, RepeatBlock, Call, Return, Proc, Shape, Turn, Coord, Message}
use Rattle.nc_expressions.specs.Symbols.{index_of}
use Rattle.nc_expressions.specs.Tree.{Tree, Number, Parameter, Indexed, Unary, Binary}
use Rattle.nc_expressions.specs.Value.{value_of}
use Rattle.nc_expressions.specs.Values.{Values}

-- this is the parameter of a number
abbrev pub is_number : ℕ → Option ℕ → Bool
is_number number (Some index) = index == number
is_number number None = false

-- the value of an index is the number of a parameter; one with an alarm is of none
abbrev pub is_at : ℕ → Result ℤ ℕ → Bool
is_at number (Ok z) = is_number number (index_of z)
is_at number (Err alarm) = false

-- an expression names a parameter, or its index has that value where the parameters have these values
abbrev pub reads : Values → ℕ → Tree → Bool
reads values number (Number n) = false
reads values number (Parameter index) = index == number
reads values number (Indexed t) = reads values number t || is_at number (value_of values t)
reads values number (Unary op t) = reads values number t
reads values number (Binary op a b) = reads values number a || reads values number b

abbrev pub option_reads : Values → ℕ → Option Tree → Bool
option_reads values number None = false
option_reads values number (Some t) = reads values number t

abbrev pub operand_reads : Values → ℕ → OperandView → Bool
operand_reads values number (Value t) = reads values number t
operand_reads values number (Text bytes) = false
operand_reads values number (AxisName bytes) = false

-- of a parameter that gets a value the index is read
abbrev pub word_reads : Values → ℕ → WordView → Bool
word_reads values number (Assign i t) = reads values number t
word_reads values number (AssignAt i t) = reads values number i || reads values number t
word_reads values number (G group code) = false
word_reads values number (Axis bytes m t) = reads values number t
word_reads values number (Radius t) = reads values number t
word_reads values number (Aux bytes i o) = option_reads values number i || operand_reads values number o
word_reads values number End = false

abbrev pub entry_reads : Values → ℕ → ℕ × Tree → Bool
entry_reads values number entry = reads values number entry.1

-- the end of FOR counts its parameter up, and compares it with the bound
abbrev pub end_reads : Values → ℕ → Statement → Bool
end_reads values number (For i a b) = (i == number) || reads values number b
end_reads values number other = false

-- a block with this beginning of the structure round it
unfoldable pub block_reads : Values → (opener statement : Statement) → ℕ → Bool
block_reads values opener Empty number = false
block_reads values opener (WordBlock words) number = list_any (word_reads values number) words
block_reads values opener (Jump j) number = false
block_reads values opener (IfJump t j) number = reads values number t
block_reads values opener (If t) number = reads values number t
block_reads values opener Else number = false
block_reads values opener EndIf number = false
block_reads values opener (While t) number = reads values number t
block_reads values opener EndWhile number = false
block_reads values opener Repeat number = false
block_reads values opener (Until t) number = reads values number t
block_reads values opener Loop number = false
block_reads values opener EndLoop number = false
block_reads values opener (For i a b) number = reads values number a || reads values number b
block_reads values opener EndFor number = end_reads values number opener
block_reads values opener (Case t pairs d) number = reads values number t
block_reads values opener (RepeatFrom n t) number = option_reads values number t
block_reads values opener (RepeatBlock n t) number = option_reads values number t
block_reads values opener (Call n k) number = false
block_reads values opener Return number = false
block_reads values opener (Proc n) number = false
block_reads values opener (Shape w axes) number = list_any (entry_reads values number) axes
block_reads values opener (Turn b t) number = option_reads values number t
block_reads values opener (Coord w operands) number = list_any (operand_reads values number) operands
block_reads values opener Message number = false
