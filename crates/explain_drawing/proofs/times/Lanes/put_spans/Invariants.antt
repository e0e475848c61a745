use Rattle.std.proofs.Common.{◌≡◌, ◌++◌, take}
use Rattle.std.specs.List.{flat_map}
use Rattle.explain_drawing.specs.Times.{span_text}
use Rattle.explain_drawing.proofs.times.Lanes.put_spans.Given as goal

abbrev pub invariant-loop-span : goal.invariant-loop-span
invariant-loop-span l = l.text ≡ l.initial.text ++ flat_map (span_text l.told.lines.now l.told.job.now l.self) (take l.span-index l.spans)
