use Rattle.std.proofs.Common.{◌≡◌, ℕ, ◌+◌, ◌≤◌, length}
use Rattle.block_scanner.specs.Scanned.{InOrder}
use Rattle.block_scanner.specs.Tokens.{tokens_from, tokens_of}
use Rattle.block_scanner.proofs.Steps.{onto}
use Rattle.block_scanner.proofs.scanning.scan_from_left.Given as goal

abbrev pub invariant-loop-first : goal.invariant-loop-first
invariant-loop-first l = record {
  place : l.at + length l.rest ≡ length l.line;
  goes_on : onto l.tokens.items (tokens_from l.at l.rest 0) ≡ tokens_of l.line;
  ordered : (to : ℕ) → l.at ≤ to → InOrder 0 l.tokens.items to;
}

abbrev pub decreases-loop-first : goal.decreases-loop-first
decreases-loop-first l = length l.rest
