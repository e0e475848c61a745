-- Law. What a block names is there: each parameter that it names by its number is one of those that a channel has.
use Rattle.std.specs.Prelude.{ℕ, ◌≤◌, All, List, [], Option, Some, None}
use Rattle.nc_expressions.specs.Tree.{Tree, IndicesFit}
use Rattle.nc_expressions.specs.Values.{Values}
use Rattle.nc_blocks.specs.Statement.{OperandView, Value, Text, AxisName, WordView, Assign, AssignAt, G, Axis, Radius, Aux, End, Statement, Empty, WordBlock, Jump, IfJump, If, Else, EndIf, While, EndWhile, Repeat, Until, Loop, EndLoop, For, EndFor, Case, RepeatFrom, RepeatBlock, Call, Return, Proc, Shape, Turn, Coord, Message}
use Rattle.nc_expressions.specs.declared.limits.TheConstants.{LAST_PARAMETER}

abbrev pub OptionFits : Option Tree → Type 0
OptionFits None = Unit {0}
OptionFits (Some t) = IndicesFit t

abbrev pub OperandFits : OperandView → Type 0
OperandFits (Value t) = IndicesFit t
OperandFits (Text bytes) = Unit {0}
OperandFits (AxisName bytes) = Unit {0}

abbrev pub WordFits : WordView → Type 0
WordFits (Assign i t) = (i ≤ LAST_PARAMETER) × IndicesFit t
WordFits (AssignAt i t) = IndicesFit i × IndicesFit t
WordFits (G group code) = Unit {0}
WordFits (Axis bytes m t) = IndicesFit t
WordFits (Radius t) = IndicesFit t
WordFits (Aux bytes i o) = OptionFits i × OperandFits o
WordFits End = Unit {0}

abbrev pub EntryFits : ℕ × Tree → Type 0
EntryFits p = IndicesFit p.1

-- each parameter that a statement names by its number is one of those that a channel has
abbrev pub StatementIndicesFit : Statement → Type 0
StatementIndicesFit Empty = Unit {0}
StatementIndicesFit (WordBlock words) = All WordFits words
StatementIndicesFit (Jump j) = Unit {0}
StatementIndicesFit (IfJump t j) = IndicesFit t
StatementIndicesFit (If t) = IndicesFit t
StatementIndicesFit Else = Unit {0}
StatementIndicesFit EndIf = Unit {0}
StatementIndicesFit (While t) = IndicesFit t
StatementIndicesFit EndWhile = Unit {0}
StatementIndicesFit Repeat = Unit {0}
StatementIndicesFit (Until t) = IndicesFit t
StatementIndicesFit Loop = Unit {0}
StatementIndicesFit EndLoop = Unit {0}
StatementIndicesFit (For i a b) = (i ≤ LAST_PARAMETER) × IndicesFit a × IndicesFit b
StatementIndicesFit EndFor = Unit {0}
StatementIndicesFit (Case t pairs d) = IndicesFit t
StatementIndicesFit (RepeatFrom n t) = OptionFits t
StatementIndicesFit (RepeatBlock n t) = OptionFits t
StatementIndicesFit (Call n k) = Unit {0}
StatementIndicesFit Return = Unit {0}
StatementIndicesFit (Proc n) = Unit {0}
StatementIndicesFit (Shape w axes) = All EntryFits axes
StatementIndicesFit (Turn b t) = OptionFits t
StatementIndicesFit (Coord w operands) = All OperandFits operands
StatementIndicesFit Message = Unit {0}

-- a statement fits a program whose variables have these names. No statement reads or sets a variable by its name yet, so today the names constrain nothing
abbrev pub StatementFits : List (List ℕ) → Statement → Type 0
StatementFits names statement = StatementIndicesFit statement

-- the names that have a value where expressions read these values. No name has one yet
abbrev pub names_with_values : Values → List (List ℕ)
names_with_values values = []

-- a statement fits where expressions read these values: it fits the names that have one
abbrev pub FitsValues : Values → Statement → Type 0
FitsValues values statement = StatementFits (names_with_values values) statement
