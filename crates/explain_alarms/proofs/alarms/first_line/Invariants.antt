use Rattle.std.proofs.Common.{◌≡◌, drop}
use Rattle.explain_alarms.specs.Alarms.{alarm_line}
use Rattle.explain_alarms.proofs.alarms.first_line.Given as goal

abbrev pub invariant-loop-entry : goal.invariant-loop-entry
invariant-loop-entry l = alarm_line l.channel (drop l.entry-index l.entries) ≡ alarm_line l.channel l.entries
