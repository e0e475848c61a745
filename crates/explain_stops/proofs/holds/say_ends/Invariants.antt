-- The channels so far are said.
use Rattle.std.proofs.Common.{◌≡◌, ◌++◌, take}
use Rattle.std.specs.List.{flat_map}
use Rattle.axis_sets.specs.Sets.{members_of}
use Rattle.explain_stops.specs.Lacks.{lacked_end}
use Rattle.explain_stops.specs.Waits.{some_lack_text}
use Rattle.explain_stops.proofs.holds.say_ends.Given as goal

abbrev pub invariant-loop-channel : goal.invariant-loop-channel
invariant-loop-channel l = l.text ≡ l.initial.text
    ++ flat_map (λ channel. some_lack_text l.told.lines.now l.told.job.now l.told.run.now (lacked_end l.told.job.now l.told.run.now l.own (members_of l.named) channel)) (take l.channel-index l.channel-items)
