-- So many motions are in the rows so far, and no more than items.
use Rattle.std.proofs.Common.{◌≡◌, ◌≤◌, length, take}
use Rattle.std.specs.List.{sum_by}
use Rattle.turnmill.specs.Summary.{moves_of}
use Rattle.turnmill.proofs.sample.all_moves.Given as goal

abbrev pub invariant-loop-items : goal.invariant-loop-items
invariant-loop-items l = record {
  value : l.count ≡ sum_by (λ items. moves_of items.items) (take l.items-index l.rows);
  few : l.count ≤ sum_by (λ items. length items.items) (take l.items-index l.rows);
}
