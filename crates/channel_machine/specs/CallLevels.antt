-- Meaning. On which levels of calls a block stands, the main program's the lowest.
use Rattle.std.specs.Prelude.{◌≡◌, ℕ, ◌==◌, if◌then◌else◌, List, [], ◌∷◌, fold, slice_get, Option, None, Some, Result, Ok, Err}
use Rattle.std.specs.Option.{option_map}
use Rattle.channel_machine.specs.Levels.{levels_after, lines_of}
use Rattle.channel_machine.specs.Run.{SurroundingsView, Executed, Deed, Channel, SegmentView, blocks_of, channel_at_start, surroundings_of}
use Rattle.channel_machine.specs.Scripts.{segment_after}
use Rattle.channel_machine.specs.declared.levels.Levels.{Levels}
use Rattle.job_types.specs.Job.{JobView}
use Rattle.fault_codes.specs.declared.alarms.TheConstants.{NO_PROGRAM_END}
use Rattle.sync_types.specs.declared.Action.{Action}
use Rattle.sync_types.specs.declared.Action.TheVariants.{WaitM, SetM, ClearM, Init, Start, WaitE, Release, Get, End, Alarm}
use Rattle.sync_types.specs.declared.Grant.{Grant}

-- ---- after the blocks

-- nowhere at an alarm
abbrev pub or_nowhere : Result (Option Levels) ℕ → Option Levels
or_nowhere (Ok levels) = levels
or_nowhere (Err code) = None

-- where control is after a block more; nowhere where that leads nowhere or alarms
abbrev pub led : SurroundingsView → Option Levels → Executed → Option Levels
led setting None done = None
led setting (Some levels) done = or_nowhere (levels_after setting.skip setting.programs levels done.effect.course)

-- where control is after these deeds of a channel: from the first block of its main program on, as each executed block leads it
abbrev pub levels_by : SurroundingsView → List Deed → Option Levels
levels_by setting past = fold (led setting) (channel_at_start setting).levels (blocks_of past)

-- ---- at an alarm

-- the levels on which a block stands that alarms so; alarm 9 is that of no block
abbrev pub levels_at_alarm : ℕ → Option Levels → Option Levels
levels_at_alarm code levels = if code == NO_PROGRAM_END then None else levels

abbrev pub levels_at_step : Action → Option Levels → Option Levels
levels_at_step (Alarm code) levels = levels_at_alarm code levels
levels_at_step (WaitM number channels) levels = None
levels_at_step (SetM marks) levels = None
levels_at_step (ClearM marks) levels = None
levels_at_step (Init channel program) levels = None
levels_at_step (Start channels) levels = None
levels_at_step (WaitE channels) levels = None
levels_at_step (Release axes) levels = None
levels_at_step (Get axes) levels = None
levels_at_step End levels = None

-- the levels on which the block stands whose alarm ends a segment: where control is after the blocks before it; none where no alarm of a block ends it
abbrev pub alarmed_in : SurroundingsView → SegmentView → Option Levels
alarmed_in setting segment = levels_at_step segment.step.action (levels_by setting segment.after.past)

-- the same of the segment of a channel of a job after these grants
unfoldable pub alarmed_levels : JobView → ℕ → List Grant → Option Levels
alarmed_levels job c [] = None
alarmed_levels job c (first ∷ grants) = alarmed_in (surroundings_of job c first) (segment_after job c (first ∷ grants))

-- on those levels a block stands that is on the line of the alarm
pub record IsAlarmedThere (job : JobView) (c : ℕ) (grants : List Grant) : Type 0 where
  pub levels : Levels
  pub alarmed : alarmed_levels job c grants ≡ Some levels
  pub line : option_map (λ b. b.0) (slice_get (lines_of job.programs levels.here.program) levels.here.pc) ≡ Some (segment_after job c grants).step.line

-- ---- answers

-- control is where the deeds of the channel lead it, or nowhere
abbrev pub IsPlaced : SurroundingsView → Channel → Type 0
IsPlaced setting channel = (levels : Levels) → channel.levels ≡ Some levels → levels_by setting channel.past ≡ Some levels
