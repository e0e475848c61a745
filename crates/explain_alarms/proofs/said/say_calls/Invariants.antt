-- The calls so far are said.
use Rattle.std.proofs.Common.{◌≡◌, ◌++◌, take}
use Rattle.std.specs.List.{flat_map}
use Rattle.explain_alarms.specs.Texts.{call_text}
use Rattle.explain_alarms.proofs.said.say_calls.Given as goal

abbrev pub invariant-loop-call : goal.invariant-loop-call
invariant-loop-call l = l.text ≡ l.initial.text ++ flat_map (call_text l.told.lines.now l.told.job.now) (take l.call-index l.calls)
