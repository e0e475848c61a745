-- The pairs so far, and those that are still to be appended.
use Rattle.std.proofs.Common.{◌≡◌, ◌+◌, ◌-◌, ◌++◌}
use Rattle.clash_check.specs.ZonePairs as model
use Rattle.clash_check.proofs.zone_pairs.push_pairs.Given as goal

abbrev pub invariant-loop-other : goal.invariant-loop-other
invariant-loop-other l = l.pairs.items ++ model.pairs_with l.place l.other (l.count - l.other) ≡ l.initial.pairs.items ++ model.pairs_with l.place (l.place + 1) (l.count - (l.place + 1))
