use Rattle.order_clocks.specs.Pairs.{IsLeastWith, IsRaceOver}
use Rattle.order_clocks.proofs.pairs.least_over.Given as goal

abbrev pub invariant-loop-k : goal.invariant-loop-k
invariant-loop-k l = IsLeastWith (IsRaceOver l.meeting l.events l.k l.late) l.fn.start l.least
