-- Meaning. Which parameters a block reads and which it gives values, from left to right. An index in brackets has the value that it has before the block.
use Rattle.std.specs.Prelude.{ℕ, ℤ, ◌==◌, Bool, false, List, [], ◌∷◌, ◌++◌, Option, Some, None, Result, Ok, Err}
use Rattle.std.specs.List.{flat_map}
use Rattle.nc_blocks.specs.Statement.{OperandView, Value, Text, AxisName, WordView, Assign, AssignAt, G, Axis, Radius, Aux, End, Statement, Empty, WordBlock, Jump, IfJump, If, Else, EndIf, While, EndWhile, Repeat, Until, Loop, EndLoop, For, EndFor, Case, RepeatFrom, RepeatBlock, Call, Return, Proc, Shape, Turn, Coord, Message}
use Rattle.nc_expressions.specs.Symbols.{index_of}
use Rattle.nc_expressions.specs.Tree.{Tree, Number, Parameter, Indexed, Unary, Binary}
use Rattle.nc_expressions.specs.Value.{value_of}
use Rattle.nc_expressions.specs.Values.{Values}
use Rattle.explain_assumptions.specs.declared.remarks.Remark.{Remark}
use Rattle.explain_assumptions.specs.declared.remarks.RemarkKind.{RemarkKind}
use Rattle.explain_assumptions.specs.declared.remarks.RemarkKind.TheVariants.{Reads, Sets}

-- a block on this line reads a parameter, or gives it a value
abbrev pub read : ℕ → ℕ → Remark
read line number = record { line = line; kind = Reads number }

abbrev pub set : ℕ → ℕ → Remark
set line number = record { line = line; kind = Sets number }

-- the same of the parameter of an index, where it is one
abbrev pub read_index : ℕ → Option ℕ → List Remark
read_index line (Some number) = read line number ∷ []
read_index line None = []

abbrev pub set_index : ℕ → Option ℕ → List Remark
set_index line (Some number) = set line number ∷ []
set_index line None = []

-- and of the index with a value
abbrev pub read_at : ℕ → Result ℤ ℕ → List Remark
read_at line (Ok value) = read_index line (index_of value)
read_at line (Err code) = []

abbrev pub set_at : ℕ → Result ℤ ℕ → List Remark
set_at line (Ok value) = set_index line (index_of value)
set_at line (Err code) = []

-- what an expression reads where the parameters have these values
abbrev pub reads : Values → ℕ → Tree → List Remark
reads values line (Number n) = []
reads values line (Parameter number) = read line number ∷ []
reads values line (Indexed t) = reads values line t ++ read_at line (value_of values t)
reads values line (Unary op t) = reads values line t
reads values line (Binary op a b) = reads values line a ++ reads values line b

abbrev pub option_reads : Values → ℕ → Option Tree → List Remark
option_reads values line None = []
option_reads values line (Some t) = reads values line t

abbrev pub operand_reads : Values → ℕ → OperandView → List Remark
operand_reads values line (Value t) = reads values line t
operand_reads values line (Text bytes) = []
operand_reads values line (AxisName bytes) = []

abbrev pub entry_reads : Values → ℕ → ℕ × Tree → List Remark
entry_reads values line entry = reads values line entry.1

-- a word reads what its value names before it gives a parameter that value
abbrev pub word_reads : Values → ℕ → WordView → List Remark
word_reads values line (Assign number t) = reads values line t ++ set line number ∷ []
word_reads values line (AssignAt i t) = reads values line i ++ (reads values line t ++ set_at line (value_of values i))
word_reads values line (G group code) = []
word_reads values line (Axis bytes m t) = reads values line t
word_reads values line (Radius t) = reads values line t
word_reads values line (Aux bytes i o) = option_reads values line i ++ operand_reads values line o
word_reads values line End = []

-- FOR sets its parameter and then looks at its bound
abbrev pub for_reads : Values → ℕ → ℕ → Tree → Tree → List Remark
for_reads values line number first bound = reads values line first ++ (set line number ∷ [] ++ reads values line bound)

-- ENDFOR counts the parameter of its FOR up, and looks at the bound
abbrev pub end_reads : Values → ℕ → Statement → List Remark
end_reads values line (For number first bound) = read line number ∷ [] ++ reads values line bound
end_reads values line other = []

-- a block with this beginning of the structure round it
unfoldable pub block_reads : Values → ℕ → (opener statement : Statement) → List Remark
block_reads values line opener Empty = []
block_reads values line opener (WordBlock words) = flat_map (word_reads values line) words
block_reads values line opener (Jump j) = []
block_reads values line opener (IfJump t j) = reads values line t
block_reads values line opener (If t) = reads values line t
block_reads values line opener Else = []
block_reads values line opener EndIf = []
block_reads values line opener (While t) = reads values line t
block_reads values line opener EndWhile = []
block_reads values line opener Repeat = []
block_reads values line opener (Until t) = reads values line t
block_reads values line opener Loop = []
block_reads values line opener EndLoop = []
block_reads values line opener (For number first bound) = for_reads values line number first bound
block_reads values line opener EndFor = end_reads values line opener
block_reads values line opener (Case t pairs d) = reads values line t
block_reads values line opener (RepeatFrom n t) = option_reads values line t
block_reads values line opener (RepeatBlock n t) = option_reads values line t
block_reads values line opener (Call n k) = []
block_reads values line opener Return = []
block_reads values line opener (Proc n) = []
block_reads values line opener (Shape w axes) = flat_map (entry_reads values line) axes
block_reads values line opener (Turn b t) = option_reads values line t
block_reads values line opener (Coord w operands) = flat_map (operand_reads values line) operands
block_reads values line opener Message = []

-- ---- what is read

-- a block reads the parameter of a number
abbrev pub is_kind_of_reading : ℕ → RemarkKind → Bool
is_kind_of_reading number (Reads other) = other == number
is_kind_of_reading number other = false

abbrev pub is_reading : ℕ → Remark → Bool
is_reading number remark = is_kind_of_reading number remark.kind
