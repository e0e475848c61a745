use Rattle.std.proofs.Common.{◌≡◌, ◌++◌, take}
use Rattle.std.specs.List.{flat_map}
use Rattle.explain_assumptions.specs.Texts.{assumed_text}
use Rattle.explain_assumptions.proofs.said.say_rows.Given as goal

abbrev pub invariant-loop-assumed : goal.invariant-loop-assumed
invariant-loop-assumed l = l.text ≡ l.initial.text ++ flat_map (assumed_text l.told.lines.now l.told.job.now) (take l.assumed-index l.rows)
