-- Meaning. How the verdict ALARM is said.
use Rattle.std.specs.Prelude.{ℕ, List, [], ◌++◌, Option, Some, codes, ◌==◌, if◌then◌else◌, length}
use Rattle.std.specs.Fmt.{decimal}
use Rattle.std.specs.List.{flat_map}
use Rattle.explain_advice.specs.Advice.{advice_of, alarms, cause_of, name_of}
use Rattle.job_types.specs.Job.{JobView}
use Rattle.fault_codes.specs.declared.Alarm.{Alarm}
use Rattle.explain_stops.specs.Ends.{end_of}
use Rattle.explain_stops.specs.Remedies.{advice_text}
use Rattle.explain_stops.specs.Stuck.{waits_text}
use Rattle.sync_types.specs.Boards.{Board, channel_numbers}
use Rattle.sync_types.specs.Views.{RunView}
use Rattle.sync_types.specs.declared.ChannelEnd.{ChannelEnd}
use Rattle.sync_types.specs.declared.ChannelEnd.TheVariants.{Alarmed}
use Rattle.explain_places.specs.Lines.{block_text, channel_first_text}
use Rattle.explain_places.specs.Lines as line

-- which alarm stops a channel, and what it is called
unfoldable pub name_text : ℕ → ℕ → List ℕ
name_text channel code = channel_first_text channel ++ (codes " is stopped by alarm " ++ (decimal code ++ (codes ", " ++ name_of alarms code)))

-- in which block
unfoldable pub place_text : List ℕ → JobView → ℕ → List ℕ
place_text input job line = codes ", in " ++ (block_text input job line ++ codes "\n")

-- when it comes
unfoldable pub cause_text : ℕ → List ℕ
cause_text code = codes "  " ++ (cause_of alarms code ++ codes "\n")

-- what to do, where that is not in its cause
unfoldable pub to_do_text : List ℕ → List ℕ
to_do_text advice = if length advice == 0 then [] else advice_text advice

unfoldable pub one_text : List ℕ → JobView → ℕ → Alarm → List ℕ
one_text input job channel alarm =
    name_text channel alarm.code ++ (place_text input job alarm.line ++ (cause_text alarm.code ++ to_do_text (advice_of alarms alarm.code)))

-- nothing of a channel that no alarm stops
unfoldable pub end_text : List ℕ → JobView → ℕ → Option ChannelEnd → List ℕ
end_text input job channel (Some (Alarmed alarm)) = one_text input job channel alarm
end_text input job channel other = []

unfoldable pub channel_text : List ℕ → JobView → RunView → ℕ → List ℕ
channel_text input job run channel = end_text input job channel (end_of job run channel)

-- the verdict names this channel; all alarms, and who waits for good
unfoldable pub alarm_text : List ℕ → JobView → RunView → Board → ℕ → List ℕ
alarm_text input job run b channel = codes "ALARM: the control would stop " ++ (line.channel_text channel ++ (codes ", and so no boxes are compared.\n"
    ++ (flat_map (channel_text input job run) channel_numbers ++ waits_text input job run b)))
