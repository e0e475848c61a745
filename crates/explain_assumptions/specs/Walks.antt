-- Steps. A channel that executes its blocks again, with the remarks on them.
use Rattle.std.specs.Prelude.{◌≡◌, ℕ, Bool, List, slice_get, Some}
use Rattle.block_effects.specs.Words.{values_in}
use Rattle.channel_machine.specs.CallLevels.{IsPlaced}
use Rattle.channel_machine.specs.Kept.{Keeps, StateView}
use Rattle.channel_machine.specs.Levels.{lines_of, program_blocks}
use Rattle.channel_machine.specs.Passing.{IsRest}
use Rattle.channel_machine.specs.Run.{SurroundingsView, Channel, segment_of}
use Rattle.channel_machine.specs.declared.levels.Levels.{Levels}
use Rattle.job_types.specs.Job.{ProgramView}
use Rattle.nc_blocks.specs.Statement.{BlockView, Statement}
use Rattle.nc_control_flow.specs.Parts.{statement_at}
use Rattle.nc_control_flow.specs.Structures.{opening}
use Rattle.nc_subprograms.specs.declared.Place.{Place}
use Rattle.explain_assumptions.specs.Remarks.{block_says, remarks_of}
use Rattle.explain_assumptions.specs.declared.remarks.Remark.{Remark}
use Rattle.explain_assumptions.specs.declared.walks.Coming.{Coming}

-- this is kept of a channel, and these are the remarks on all that it has executed
pub record IsWalked (setting : SurroundingsView) (channel : Channel) (kept : StateView) (remarks : List Remark) : Type 0 where
  pub keeps : Keeps setting channel kept
  pub placed : IsPlaced setting channel
  pub told : remarks ≡ remarks_of setting channel.past

-- a block on
pub record IsStep (setting : SurroundingsView) (channel : Channel) (ends : Bool) (kept : StateView) (remarks : List Remark) : Type 0 where
  pub next : Channel
  pub walked : IsWalked setting next kept remarks
  pub rest : IsRest setting channel ends next

-- some blocks on, from where the segment is the same
pub record IsAlong (setting : SurroundingsView) (channel : Channel) (kept : StateView) (remarks : List Remark) : Type 0 where
  pub next : Channel
  pub walked : IsWalked setting next kept remarks
  pub rest : (segment_of setting channel).after ≡ (segment_of setting next).after

-- the beginning of the structure round a place
abbrev pub opener_in : List (List ℕ × ProgramView) → Place → Statement
opener_in programs here = statement_at (opening here.pc (program_blocks programs here.program)) (program_blocks programs here.program)

-- this is said by the block at which control stands, if one does
abbrev pub IsComing : List (List ℕ × ProgramView) → StateView → Coming → Type 0
IsComing programs kept coming =
    (levels : Levels) (line : ℕ) (block : BlockView) → kept.levels ≡ Some levels → slice_get (lines_of programs levels.here.program) levels.here.pc ≡ Some (line, block)
    → (coming.line ≡ line) × (coming.remarks.items ≡ block_says (values_in kept.parameters) line (opener_in programs levels.here) block.statement)
