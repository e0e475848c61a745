-- What is left leads from here to what the whole piece leads to, and there are no more lines than bytes.
use Rattle.std.proofs.Common.{◌≡◌, ◌+◌, ◌≤◌, ◌++◌, ℕ, List, length}
use Rattle.tape_job.specs.Pieces.{IsReady, outcome}
use Rattle.tape_job.proofs.piece_reader.PieceReader.feed.Given as goal

abbrev pub invariant-loop-rest : goal.invariant-loop-rest
invariant-loop-rest l = record {
  ready : IsReady l.self;
  number : l.self.lines.number + length l.rest ≤ l.fn.self.lines.number + length l.fn.piece;
  leads : (more : List ℕ) → outcome l.self (l.rest ++ more) ≡ outcome l.fn.self (l.fn.piece ++ more);
}

abbrev pub decreases-loop-rest : goal.decreases-loop-rest
decreases-loop-rest l = length l.rest
