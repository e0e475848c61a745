use Rattle.order_clocks.specs.Pairs.{IsLeastWith, IsRaceBetween}
use Rattle.order_clocks.proofs.pairs.least_between.Given as goal

abbrev pub invariant-loop-k : goal.invariant-loop-k
invariant-loop-k l = IsLeastWith (IsRaceBetween l.meeting l.earlies l.lates l.k) l.fn.start l.least
