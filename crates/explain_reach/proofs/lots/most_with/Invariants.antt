-- The greatest of the numbers and of the boxes so far.
use Rattle.std.proofs.Common.{ℤ, List, ◌++◌, map, take}
use Rattle.explain_reach.specs.Lots.{IsGreatest}
use Rattle.explain_reach.specs.Reaches.{reach_of}
use Rattle.explain_reach.proofs.lots.most_with.Given as goal

abbrev pub invariant-loop-other : goal.invariant-loop-other
invariant-loop-other l = (numbers : List ℤ) → IsGreatest l.fn.before numbers → IsGreatest l.most (numbers ++ map (reach_of l.left) (take l.other-index l.right))
