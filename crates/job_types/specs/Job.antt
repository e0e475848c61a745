-- Meaning. What a contract sees of a job and of a program.
use Rattle.std.specs.Prelude.{ℕ, ℤ, Bool, List, []}
use Rattle.nc_blocks.specs.declared.blocks.Block.{Block}
use Rattle.nc_blocks.specs.Statement.{BlockView, view_of}
use Rattle.job_types.specs.declared.job.ChannelLine.{ChannelLine}
use Rattle.job_types.specs.declared.job.AxisLine.{AxisLine}
use Rattle.job_types.specs.declared.job.GeoLine.{GeoLine}
use Rattle.job_types.specs.declared.job.OffsetLine.{OffsetLine}
use Rattle.job_types.specs.declared.job.ZoneLine.{ZoneLine}
use Rattle.nc_variables.specs.Table.{TableView, no_variables}
use Rattle.tool_offsets.specs.declared.tools.ToolEdge.{ToolEdge}

-- a block and its line
abbrev pub block_entry : ℕ × Block → ℕ × BlockView
block_entry entry = (entry.0, view_of entry.1)

-- the names of the variables that the blocks of a program define. No block defines one yet
abbrev pub names_of : List (ℕ × BlockView) → List (List ℕ)
names_of blocks = []

-- a program: the line of its header, its blocks, each with its line, and its variables
pub record ProgramView : Type 0 where
  pub line : ℕ
  pub blocks : List (ℕ × BlockView)
  pub table : TableView

-- the program of a header at this line and of these blocks; it has no variables
abbrev pub program_of : ℕ → List (ℕ × BlockView) → ProgramView
program_of line blocks = record { line = line; blocks = blocks; table = no_variables }

-- a job: the version of its job list, its number among the jobs of the input, from 1 on, and the line of its job line; what its lines declare, and its programs under their names, in the order of the input
pub record JobView : Type 0 where
  pub version : ℕ
  pub number : ℕ
  pub line : ℕ
  pub channels : List ChannelLine
  pub axes : List AxisLine
  pub geo : List GeoLine
  pub offsets : List OffsetLine
  pub zones : List ZoneLine
  pub margin : ℤ
  pub depth : ℕ
  pub budget : ℕ
  pub compensation : Bool
  pub skip : Bool
  pub tools : List (ℕ × List ToolEdge)
  pub timeline : Bool
  pub feeds : List (ℕ × ℕ)
  pub times : List (ℕ × ℕ × ℕ)
  pub programs : List (List ℕ × ProgramView)
