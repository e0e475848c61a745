-- The pairs so far, and those that are still to be appended.
use Rattle.std.proofs.Common.{◌≡◌, ◌-◌, ◌++◌}
use Rattle.clash_check.specs.ZonePairs as model
use Rattle.clash_check.proofs.zone_pairs.zone_pairs.Given as goal

abbrev pub invariant-loop-place : goal.invariant-loop-place
invariant-loop-place l = l.pairs.items ++ model.pairs_from l.place (l.count - l.place) ≡ model.pairs_from 0 l.count
