-- The groups so far are said.
use Rattle.std.proofs.Common.{◌≡◌, ◌++◌, take}
use Rattle.std.specs.List.{flat_map}
use Rattle.explain.specs.Clashes.{group_text}
use Rattle.explain.proofs.clash_text.say_each.Given as goal

abbrev pub invariant-loop-group : goal.invariant-loop-group
invariant-loop-group l = l.text ≡ l.initial.text ++ flat_map (group_text l.told.lines.now l.told.job.now l.met) (take l.group-index l.groups)
