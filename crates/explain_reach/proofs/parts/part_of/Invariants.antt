-- The boxes so far.
use Rattle.std.proofs.Common.{◌≡◌, take}
use Rattle.explain_reach.proofs.parts.part_of.Given as goal

abbrev pub invariant-loop-piece : goal.invariant-loop-piece
invariant-loop-piece l = l.boxes.items ≡ take l.piece-index l.front
