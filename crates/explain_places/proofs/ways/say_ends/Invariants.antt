-- The ends so far are said.
use Rattle.std.proofs.Common.{◌≡◌, ◌++◌, take}
use Rattle.std.specs.List.{flat_map}
use Rattle.explain_places.specs.Motions.{next_end_text}
use Rattle.explain_places.proofs.ways.say_ends.Given as goal

abbrev pub invariant-loop-end : goal.invariant-loop-end
invariant-loop-end l = l.text ≡ l.initial.text ++ flat_map (next_end_text l.job) (take l.end-index l.ends)
