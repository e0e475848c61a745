use Rattle.std.proofs.Common.{◌≡◌, ◌++◌, take}
use Rattle.std.specs.List.{flat_map}
use Rattle.explain_drawing.specs.Times.{lane_text}
use Rattle.explain_drawing.proofs.times.Lanes.put_lanes.Given as goal

abbrev pub invariant-loop-channel : goal.invariant-loop-channel
invariant-loop-channel l = l.text ≡ l.initial.text ++ flat_map (lane_text l.self) (take l.channel-index l.channels)
