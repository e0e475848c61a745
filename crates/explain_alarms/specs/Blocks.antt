-- Meaning. Where the block of a line stands.
use Rattle.std.specs.Prelude.{◌≡◌, ℕ, ◌<◌, ◌==◌, nat_lt, if◌then◌else◌, List, Option, Some, None, map, position}
use Rattle.std.specs.Option.{option_and_then}
use Rattle.channel_machine.specs.Levels.{lines_of, program_blocks}
use Rattle.job_types.specs.Job.{ProgramView, block_entry, names_of}
use Rattle.nc_blocks.specs.Indices.{StatementFits}
use Rattle.nc_blocks.specs.Statement.{BlockView, Statement}
use Rattle.nc_blocks.specs.declared.blocks.Block.{Block}
use Rattle.nc_control_flow.specs.Parts.{statement_at, views}
use Rattle.nc_control_flow.specs.Structures.{opening}

-- a place, where it is one that a program can have
abbrev pub short : ℕ → Option ℕ
short place = if nat_lt place 4294967296 then Some place else None

-- the first place of a line in a program
unfoldable pub place_in : ℕ → List (ℕ × BlockView) → Option ℕ
place_in line lines = option_and_then short (position (λ b. b.0 == line) lines)

-- in the program of this number
abbrev pub place_at : ℕ → List (List ℕ × ProgramView) → ℕ → Option ℕ
place_at line programs number = place_in line (lines_of programs number)

-- the first program that has the line, and the place of the line there; or no program has it
abbrev pub IsPlaceOf : ℕ → List (List ℕ × ProgramView) → Option (ℕ × ℕ) → Type 0
IsPlaceOf line programs None = (number : ℕ) → place_at line programs number ≡ None
IsPlaceOf line programs (Some place) = (place_at line programs place.0 ≡ Some place.1) × ((number : ℕ) → number < place.0 → place_at line programs number ≡ None)

-- what the block of a place says, and the beginning of the structure round it
abbrev pub said_at : List (List ℕ × ProgramView) → ℕ × ℕ → Statement
said_at programs place = statement_at place.1 (program_blocks programs place.0)

abbrev pub opener_at : List (List ℕ × ProgramView) → ℕ × ℕ → Statement
opener_at programs place = statement_at (opening place.1 (program_blocks programs place.0)) (program_blocks programs place.0)

-- each of these blocks fits the names of the variables of their program
abbrev pub FlowFits : List (ℕ × Block) → Type 0
FlowFits flow = (pc : ℕ) → StatementFits (names_of (map block_entry flow)) (statement_at pc (views flow))
