use Rattle.std.proofs.Common.{◌≡◌, ◌++◌, take}
use Rattle.std.specs.List.{flat_map}
use Rattle.explain_drawing.specs.Times.{moment_part}
use Rattle.explain_drawing.proofs.times.Lanes.put_moments.Given as goal

abbrev pub invariant-loop-moment : goal.invariant-loop-moment
invariant-loop-moment l = l.text ≡ l.initial.text ++ flat_map (moment_part l.told.lines.now l.told.job.now l.verdict l.self) (take l.moment-index l.moments)
