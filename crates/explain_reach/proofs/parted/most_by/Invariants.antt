-- The greatest of the numbers and of the parts so far.
use Rattle.std.proofs.Common.{ℤ, List, ◌++◌, take}
use Rattle.std.specs.List.{flat_map}
use Rattle.explain_reach.specs.Lots.{IsGreatest, reaches}
use Rattle.explain_reach.specs.Parts.{boxes_in}
use Rattle.explain_reach.proofs.parted.most_by.Given as goal

abbrev pub invariant-loop-place : goal.invariant-loop-place
invariant-loop-place l = (numbers : List ℤ) → IsGreatest l.fn.before numbers → IsGreatest l.most (numbers ++ reaches (boxes_in l.own) (flat_map boxes_in (take l.place l.others)))
