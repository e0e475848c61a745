-- The greatest of the numbers and of the parts so far with all others.
use Rattle.std.proofs.Common.{ℤ, List, ◌++◌, take}
use Rattle.std.specs.List.{flat_map}
use Rattle.explain_reach.specs.Lots.{IsGreatest, reaches}
use Rattle.explain_reach.specs.Parts.{boxes_in}
use Rattle.explain_reach.proofs.parted.most_of.Given as goal

abbrev pub invariant-loop-own : goal.invariant-loop-own
invariant-loop-own l = (numbers : List ℤ) → IsGreatest l.fn.before numbers → IsGreatest l.most (numbers ++ reaches (flat_map boxes_in (take l.own-index l.owns)) (flat_map boxes_in l.others))
