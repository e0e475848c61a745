-- Meaning. The lines of a channel: what it did, in order, and how it has stopped.
use Rattle.std.specs.Prelude.{⊤, ℕ, ◌==◌, Bool, false, if◌then◌else◌, List, [], ◌++◌, filter, slice_index_or, codes, Option, None, Some}
use Rattle.std.specs.Fmt.{decimal}
use Rattle.std.specs.List.{enumerate_from, filter_map, flat_map, last_or, range_with_len}
use Rattle.axis_sets.specs.declared.limits.TheConstants.{CHANNEL_LIMIT}
use Rattle.job_types.specs.Channels.{has_channel}
use Rattle.job_types.specs.Job.{JobView}
use Rattle.fault_codes.specs.Codes.{IsAlarmCode}
use Rattle.nc_faults.specs.Texts.{alarm_text_of}
use Rattle.fault_codes.specs.declared.Alarm.{Alarm}
use Rattle.sync_types.specs.Views.{EntryView, RunView}
use Rattle.sync_types.specs.declared.ChannelEnd.{ChannelEnd}
use Rattle.sync_types.specs.declared.ChannelEnd.TheVariants.{Idle, Ended, Holding, Alarmed}
use Rattle.sync_types.specs.declared.Item.{Item}
use Rattle.job_report.specs.Actions.{step_line}
use Rattle.job_report.specs.Motions.{item_line}

-- the channels of a job, ascending
unfoldable pub channels_of : JobView → List ℕ
channels_of job = filter (has_channel job) (range_with_len 1 CHANNEL_LIMIT)

-- the place of an entry that is a step of the channel
abbrev pub own_place : ℕ → ℕ × EntryView → Option ℕ
own_place channel numbered = if numbered.1.channel == channel then Some numbered.0 else None

-- the place of the last step of a channel, or none where it made no step
unfoldable pub last_place : List EntryView → ℕ → Option ℕ
last_place entries channel = last_or None (filter_map (own_place channel) (enumerate_from 0 entries))

-- a block that alarms has no trace line: that is the block of the last step of a channel that an alarm has stopped
unfoldable pub silent_place : List EntryView → ℕ → ChannelEnd → Option ℕ
silent_place entries channel (Alarmed alarm) = last_place entries channel
silent_place entries channel end = None

abbrev pub is_at : ℕ → Option ℕ → Bool
is_at place None = false
is_at place (Some silent) = silent == place

-- what the channel of an entry did before its step
abbrev pub items_at : RunView → ℕ → List Item
items_at run place = slice_index_or run.items place []

-- the trace lines of an entry of the channel: what it did before its step, and the step
unfoldable pub entry_lines : JobView → RunView → Option ℕ → ℕ × EntryView → List ℕ
entry_lines job run silent numbered =
    flat_map (item_line job) (items_at run numbered.0)
    ++ (if is_at numbered.0 silent then [] else step_line job numbered.1.step)

-- other channels' entries are none of its lines
unfoldable pub own_lines : JobView → RunView → ℕ → Option ℕ → ℕ × EntryView → List ℕ
own_lines job run channel silent numbered = if numbered.1.channel == channel then entry_lines job run silent numbered else []

-- the trace lines of a channel, in the order in which it executed its blocks
unfoldable pub trace_lines : JobView → RunView → ℕ → Option ℕ → List ℕ
trace_lines job run channel silent = flat_map (own_lines job run channel silent) (enumerate_from 0 run.entries)

-- the state of a channel that an alarm has stopped
unfoldable pub alarm_line : Alarm → List ℕ
alarm_line alarm = codes "STATE ALARM " ++ (decimal alarm.line ++ (codes " " ++ (decimal alarm.code ++ (codes " " ++ (alarm_text_of alarm.code ++ codes "\n")))))

-- how a channel has stopped
unfoldable pub state_line : ChannelEnd → List ℕ
state_line Idle = codes "STATE IDLE 0\n"
state_line (Ended line) = codes "STATE ENDED " ++ (decimal line ++ codes "\n")
state_line (Holding line) = codes "STATE HOLDING " ++ (decimal line ++ codes "\n")
state_line (Alarmed alarm) = alarm_line alarm

-- the first line of a channel
unfoldable pub channel_line : ℕ → List ℕ
channel_line channel = codes "CHANNEL " ++ (decimal channel ++ codes "\n")

-- the lines of a channel that has stopped so
unfoldable pub channel_lines : JobView → RunView → ℕ → ChannelEnd → List ℕ
channel_lines job run channel end =
    channel_line channel ++ (trace_lines job run channel (silent_place run.entries channel end) ++ state_line end)

-- an alarm that has stopped a channel is one of the table of alarms
abbrev pub IsListedEnd : ChannelEnd → Type 0
IsListedEnd (Alarmed alarm) = IsAlarmCode alarm.code
IsListedEnd end = ⊤
