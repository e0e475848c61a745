-- Meaning. Which blocks of the programs can raise a mark, and whose blocks they are.
use Rattle.std.specs.Prelude.{ℕ, ◌*◌, ◌==◌, ◌&&◌, ◌||◌, not, pos, Bool, true, false, if◌then◌else◌, List, [], ◌∷◌, Option, None, Some}
use Rattle.std.specs.List.{list_any}
use Rattle.std.specs.Option.{option_map_or, option_or}
use Rattle.std.specs.Ordering.{int_eq}
use Rattle.std.specs.Str.{bytes_eq}
use Rattle.job_types.specs.Job.{JobView, ProgramView}
use Rattle.job_types.specs.declared.job.ChannelLine.{ChannelLine}
use Rattle.nc_blocks.specs.Statement.{BlockView, OperandView, Value, Text, AxisName, Statement, Coord}
use Rattle.nc_blocks.specs.declared.blocks.CoordWord.{CoordWord}
use Rattle.nc_blocks.specs.declared.blocks.CoordWord.TheVariants as word
use Rattle.nc_expressions.specs.Tree.{Tree, Number, Parameter, Indexed, Unary, Binary}

-- ---- blocks

-- an expression can be the number of a mark: it is this number, or its value is found only when the block comes
abbrev pub value_can_be : ℕ → Tree → Bool
value_can_be mark (Number millionths) = int_eq millionths (pos (mark * 1000000))
value_can_be mark (Parameter index) = true
value_can_be mark (Indexed t) = true
value_can_be mark (Unary op t) = true
value_can_be mark (Binary op a b) = true

abbrev pub can_be : ℕ → OperandView → Bool
can_be mark (Value tree) = value_can_be mark tree
can_be mark (Text bytes) = false
can_be mark (AxisName bytes) = false

abbrev pub first_can_be : ℕ → List OperandView → Bool
first_can_be mark [] = false
first_can_be mark (operand ∷ operands) = can_be mark operand

-- WAITM and WAITMC raise the mark that they name first, SETM each that it names
abbrev pub word_can_raise : ℕ → CoordWord → List OperandView → Bool
word_can_raise mark word.WaitM operands = first_can_be mark operands
word_can_raise mark word.WaitMC operands = first_can_be mark operands
word_can_raise mark word.SetM operands = list_any (can_be mark) operands
word_can_raise mark word.ClearM operands = false
word_can_raise mark word.Init operands = false
word_can_raise mark word.Start operands = false
word_can_raise mark word.WaitE operands = false
word_can_raise mark word.Release operands = false
word_can_raise mark word.Get operands = false
word_can_raise mark word.CProt operands = false

abbrev pub statement_can_raise : ℕ → Statement → Bool
statement_can_raise mark (Coord word operands) = word_can_raise mark word operands
statement_can_raise mark other = false

-- a block can raise a mark of its channel: what it says can, and it is not left out
abbrev pub can_raise : (skip : Bool) → ℕ → BlockView → Bool
can_raise skip mark block = not (skip && block.skip) && statement_can_raise mark block.statement

-- ---- whose blocks they are

-- a CHANNEL line selects the program of this name
abbrev pub selects : List ℕ → ChannelLine → Bool
selects name line = option_map_or (λ selected. bytes_eq selected name) line.program false

-- a program is a channel's: its CHANNEL line selects it, or no CHANNEL line does
unfoldable pub is_of_channel : JobView → ℕ → List ℕ → Bool
is_of_channel job channel name = list_any (λ line. line.channel == channel && selects name line) job.channels || not (list_any (selects name) job.channels)

-- the line of the first block of these that can raise a mark
abbrev pub first_line : Bool → ℕ → List (ℕ × BlockView) → Option ℕ
first_line skip mark [] = None
first_line skip mark (block ∷ blocks) = if can_raise skip mark block.1 then Some block.0 else first_line skip mark blocks

-- of a program, where it is the channel's
unfoldable pub line_in_program : JobView → ℕ → ℕ → List ℕ × ProgramView → Option ℕ
line_in_program job channel mark program = if is_of_channel job channel program.0 then first_line job.skip mark program.1.blocks else None

-- what the first gives that gives something
abbrev pub first_given : {A B : Type 0} → (A → Option B) → List A → Option B
first_given f [] = None
first_given f (x ∷ xs) = option_or (f x) (first_given f xs)

-- the line of the first block of a channel that can raise a mark, in the order of the input; none where no block of the channel can
unfoldable pub first_block : JobView → ℕ → ℕ → Option ℕ
first_block job channel mark = first_given (line_in_program job channel mark) job.programs
