use Rattle.std.proofs.Common.{◌≡◌, ◌++◌, take}
use Rattle.std.specs.List.{flat_map}
use Rattle.explain_drawing.specs.Times.{end_part}
use Rattle.explain_drawing.proofs.times.Lanes.put_each_end.Given as goal

abbrev pub invariant-loop-channel : goal.invariant-loop-channel
invariant-loop-channel l = l.text ≡ l.initial.text ++ flat_map (end_part l.self l.moments) (take l.channel-index l.channels)
