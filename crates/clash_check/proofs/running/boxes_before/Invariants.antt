use Rattle.clash_check.specs.Running.{IsSum}
use Rattle.clash_check.proofs.running.boxes_before.Given as goal

abbrev pub invariant-loop-at : goal.invariant-loop-at
invariant-loop-at l = IsSum l.others l.at l.boxes
