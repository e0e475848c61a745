use Rattle.clash_check.specs.Running.{IsLatest}
use Rattle.clash_check.proofs.running.mark_latest.Given as goal

abbrev pub invariant-loop-at : goal.invariant-loop-at
invariant-loop-at l = IsLatest l.others l.at l.places
