-- Meaning. What a statement does to the structure round it.
use Rattle.std.specs.Prelude.{ℕ, List, map, Option, Some, None, slice_get}
use Rattle.nc_blocks.specs.declared.blocks.Block.{Block}
use Rattle.nc_blocks.specs.Statement.{BlockView, view_of, Statement, Empty, If, Else, EndIf, While, EndWhile, Repeat, Until, Loop, EndLoop, For, EndFor}
use Rattle.nc_control_flow.specs.declared.parts.Part.{Part}
use Rattle.nc_control_flow.specs.declared.parts.Part.TheVariants.{Opens, Branches, Closes, Neither}

-- what a program's lines say, without the lines
abbrev pub views : List (ℕ × Block) → List BlockView
views blocks = map (λ e. view_of e.1) blocks

abbrev pub part_of : Statement → Part
part_of (If c) = Opens
part_of (While c) = Opens
part_of Repeat = Opens
part_of Loop = Opens
part_of (For i a b) = Opens
part_of Else = Branches
part_of EndIf = Closes
part_of EndWhile = Closes
part_of (Until c) = Closes
part_of EndLoop = Closes
part_of EndFor = Closes
part_of other = Neither

abbrev pub parts : List BlockView → List Part
parts blocks = map (λ b. part_of b.statement) blocks

abbrev pub statement_or_empty : Option BlockView → Statement
statement_or_empty (Some b) = b.statement
statement_or_empty None = Empty

-- what the block at a place says
abbrev pub statement_at : ℕ → List BlockView → Statement
statement_at pc blocks = statement_or_empty (slice_get blocks pc)
