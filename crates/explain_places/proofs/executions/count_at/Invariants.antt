-- So many motions of the line are among the items so far.
use Rattle.std.proofs.Common.{◌≡◌, ◌≤◌, take}
use Rattle.explain_places.specs.Executions.{motions_at}
use Rattle.explain_places.proofs.executions.count_at.Given as goal

abbrev pub invariant-loop-item : goal.invariant-loop-item
invariant-loop-item l = record { value : l.count ≡ motions_at l.line (take l.item-index l.items); few : l.count ≤ l.item-index }
