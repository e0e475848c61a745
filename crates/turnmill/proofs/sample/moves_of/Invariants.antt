-- So many of the items so far are motions.
use Rattle.std.proofs.Common.{◌≡◌, ◌≤◌, take}
use Rattle.turnmill.specs.Summary.{moves_of}
use Rattle.turnmill.proofs.sample.moves_of.Given as goal

abbrev pub invariant-loop-item : goal.invariant-loop-item
invariant-loop-item l = record { value : l.count ≡ moves_of (take l.item-index l.items); few : l.count ≤ l.item-index }
