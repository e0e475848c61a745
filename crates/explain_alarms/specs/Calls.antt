-- Meaning. Which calls are open where a block stands: which program called which, and in which line.
use Rattle.std.specs.Prelude.{ℕ, List, [], map, reverse, slice_get, Option, None, Some}
use Rattle.std.specs.Option.{option_map_or}
use Rattle.channel_machine.specs.Levels.{lines_of}
use Rattle.channel_machine.specs.declared.levels.Levels.{Levels}
use Rattle.job_types.specs.Job.{ProgramView}
use Rattle.nc_blocks.specs.Statement.{BlockView}
use Rattle.nc_subprograms.specs.declared.Place.{Place}
use Rattle.explain_alarms.specs.declared.calls.Call.{Call}

-- the line of the block of a place; 0 where no block stands
abbrev pub line_of : Option (ℕ × BlockView) → ℕ
line_of block = option_map_or (λ b. b.0) block 0

-- the call to which a level returns: its program, and the line of its block
abbrev pub call_at : List (List ℕ × ProgramView) → Place → Call
call_at programs place = record { program = place.program; line = line_of (slice_get (lines_of programs place.program) place.pc) }

-- the calls of all levels below the one that runs, that of the main program first; none where control is nowhere
abbrev pub calls_at : List (List ℕ × ProgramView) → Option Levels → List Call
calls_at programs None = []
calls_at programs (Some levels) = map (call_at programs) (reverse levels.returns)
