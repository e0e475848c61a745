-- Steps. One block of a channel: whether it was executed, and where the channel is then.
use Rattle.std.specs.Prelude.{◌≡◌, Bool, true, false, ℕ, ◌++◌, is_some, IfSome, slice_get, List, Option, None, Some}
use Rattle.std.specs.Option.{option_map_or}
use Rattle.channel_machine.specs.CallLevels.{IsPlaced}
use Rattle.channel_machine.specs.Kept.{IsThere, Keeps, StateView, StoodAtControl, deeds_of}
use Rattle.channel_machine.specs.Levels.{lines_of}
use Rattle.channel_machine.specs.Run.{SurroundingsView, Executed, Channel, does_move, segment_of}
use Rattle.channel_machine.specs.declared.levels.Levels.{Levels}
use Rattle.channel_machine.specs.declared.passing.Passing.{Passing}
use Rattle.job_types.specs.Job.{ProgramView}
use Rattle.nc_blocks.specs.Statement.{BlockView, Statement}

-- the segment of the channel goes on from there, or has ended there
abbrev pub IsRest : SurroundingsView → Channel → Bool → Channel → Type 0
IsRest setting channel false next = (segment_of setting channel).after ≡ (segment_of setting next).after
IsRest setting channel true next = (segment_of setting channel).after ≡ next

-- a block on this is told of it, and this is kept of the channel
pub record IsPassing (setting : SurroundingsView) (channel : Channel) (passing : Passing) (kept : StateView) : Type 0 where
  pub next : Channel
  pub keeps : Keeps setting next kept
  pub placed : IsPlaced setting channel → IsPlaced setting next
  pub done : Option Executed
  pub past : next.past ≡ channel.past ++ deeds_of done
  pub there : IfSome done (StoodAtControl setting channel)
  pub executed : passing.executed ≡ is_some done
  pub moves : passing.moves ≡ option_map_or does_move done false
  pub rest : IsRest setting channel passing.ends next

-- no block stands where control is
abbrev pub NoneComes : List (List ℕ × ProgramView) → Option Levels → Type 0
NoneComes programs None = Unit {0}
NoneComes programs (Some levels) = slice_get (lines_of programs levels.here.program) levels.here.pc ≡ None

-- this block stands there, with this beginning of the structure round it
abbrev pub Comes : List (List ℕ × ProgramView) → Option Levels → ℕ → BlockView → Statement → Type 0
Comes programs None line block opener = ⊥
Comes programs (Some levels) line block opener = IsThere programs levels.here line block opener
