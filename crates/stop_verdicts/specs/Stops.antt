-- Meaning. The verdict on a run with a race, or of which a channel has stopped before its end.
use Rattle.std.specs.Prelude.{ℕ, List, filter, Option, None, Some}
use Rattle.std.specs.List.{zip}
use Rattle.job_types.specs.Channels.{has_channel}
use Rattle.job_types.specs.Job.{JobView}
use Rattle.sync_types.specs.Boards.{channel_numbers}
use Rattle.sync_types.specs.Views.{RunView}
use Rattle.sync_types.specs.declared.ChannelEnd.{ChannelEnd}
use Rattle.sync_types.specs.declared.ChannelEnd.TheVariants as end
use Rattle.sync_types.specs.declared.runs.Race.{Race}
use Rattle.sync_types.specs.declared.verdicts.Verdict.{Verdict}
use Rattle.sync_types.specs.declared.verdicts.Verdict.TheVariants as verdicts

-- each channel of the job with how it has stopped, the lowest first
unfoldable pub stops_of : JobView → RunView → List (ℕ × ChannelEnd)
stops_of job run = zip (filter (has_channel job) channel_numbers) run.ends

-- ALARM of a channel that an alarm has stopped
abbrev pub alarm_by : ℕ → ChannelEnd → Option Verdict
alarm_by channel (end.Alarmed alarm) = Some (verdicts.Alarm channel alarm)
alarm_by channel other = None

-- STUCK of a channel that waits
abbrev pub stuck_by : ℕ → ChannelEnd → Option Verdict
stuck_by channel (end.Holding line) = Some (verdicts.Stuck channel line)
stuck_by channel other = None

-- RACE of a race
abbrev pub race_verdict : Option Race → Option Verdict
race_verdict None = None
race_verdict (Some race) = Some (verdicts.Race race)

-- the first that fits, of these
abbrev pub or_else : Option Verdict → Verdict → Verdict
or_else None later = later
or_else (Some verdict) later = verdict
