-- Meaning. What is told of a channel that an alarm stops.
use Rattle.std.specs.Prelude.{◌≡◌, ℕ, List, Option, Some, None}
use Rattle.block_effects.specs.Words.{values_in}
use Rattle.explain_readings.specs.Readings.{readings_of}
use Rattle.explain_readings.specs.declared.readings.Reading.{Reading}
use Rattle.channel_machine.specs.CallLevels.{alarmed_levels}
use Rattle.channel_machine.specs.Kept.{StateView}
use Rattle.channel_machine.specs.Locals.{IsKeptOf}
use Rattle.channel_machine.specs.RunGrants.{grants_of}
use Rattle.channel_machine.specs.StartStates.{start_of}
use Rattle.job_types.specs.Job.{JobView}
use Rattle.sync_types.specs.Views.{RunView}
use Rattle.explain_alarms.specs.Blocks.{IsPlaceOf, opener_at, said_at}
use Rattle.explain_alarms.specs.Calls.{calls_at}
use Rattle.explain_alarms.specs.declared.state.AlarmState.{AlarmState}

-- the values that a block reads where this is kept of its channel
abbrev pub HasReadings : JobView → ℕ × ℕ → StateView → List Reading → Type 0
HasReadings job place kept readings = readings ≡ readings_of (values_in kept.parameters) (opener_at job.programs place) (said_at job.programs place)

-- The state is that after the last step of the channel, which is the alarm: nothing of the alarmed block stands then. The calls are those of the levels on which that block stands.
pub record IsStateOf (job : JobView) (run : RunView) (channel : ℕ) (place : ℕ × ℕ) (state : AlarmState) : Type 0 where
  pub kept : StateView
  pub after : IsKeptOf job channel (grants_of (start_of job) run.entries channel) (Some kept)
  pub readings : HasReadings job place kept state.readings.items
  pub calls : state.calls.items ≡ calls_at job.programs (alarmed_levels job channel (grants_of (start_of job) run.entries channel))

-- where the channel is kept after its steps, the state of the block of a place is told
abbrev pub IsStateAt : JobView → RunView → ℕ → Option (ℕ × ℕ) → Option AlarmState → Type 0
IsStateAt job run channel None state = state ≡ None
IsStateAt job run channel (Some place) None = IsKeptOf job channel (grants_of (start_of job) run.entries channel) None
IsStateAt job run channel (Some place) (Some state) = IsStateOf job run channel place state

-- it is told of the block on the line of the alarm
pub record IsStateOn (job : JobView) (run : RunView) (channel line : ℕ) (state : Option AlarmState) : Type 0 where
  pub place : Option (ℕ × ℕ)
  pub is_place : IsPlaceOf line job.programs place
  pub state_at : IsStateAt job run channel place state

-- there is a state where an alarm of a block stops the channel, and only there
abbrev pub IsToldOf : JobView → RunView → ℕ → Option ℕ → Option AlarmState → Type 0
IsToldOf job run channel None state = state ≡ None
IsToldOf job run channel (Some line) state = IsStateOn job run channel line state
