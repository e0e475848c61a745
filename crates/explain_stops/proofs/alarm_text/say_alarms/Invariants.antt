-- The channels so far are said.
use Rattle.std.proofs.Common.{◌≡◌, ◌++◌, take}
use Rattle.std.specs.List.{flat_map}
use Rattle.explain_stops.specs.Alarms.{channel_text}
use Rattle.explain_stops.proofs.alarm_text.say_alarms.Given as goal

abbrev pub invariant-loop-channel : goal.invariant-loop-channel
invariant-loop-channel l = l.text ≡ l.initial.text ++ flat_map (channel_text l.told.lines.now l.told.job.now l.told.run.now) (take l.channel-index l.channel-items)
