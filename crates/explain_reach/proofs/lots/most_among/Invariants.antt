-- The greatest of the numbers and of the boxes so far with all others.
use Rattle.std.proofs.Common.{ℤ, List, ◌++◌, take}
use Rattle.explain_reach.specs.Lots.{IsGreatest, reaches}
use Rattle.explain_reach.proofs.lots.most_among.Given as goal

abbrev pub invariant-loop-own : goal.invariant-loop-own
invariant-loop-own l = (numbers : List ℤ) → IsGreatest l.fn.before numbers → IsGreatest l.most (numbers ++ reaches (take l.own-index l.left) l.right)
