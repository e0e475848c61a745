use Rattle.std.proofs.Common.{◌≡◌, drop}
use Rattle.order_clocks.specs.Stops.{alarms_in}
use Rattle.order_clocks.proofs.stops.next_started.Given as goal

abbrev pub invariant-loop-k : goal.invariant-loop-k
invariant-loop-k l = alarms_in (drop l.k l.ends) ≡ alarms_in (drop l.from l.ends)
