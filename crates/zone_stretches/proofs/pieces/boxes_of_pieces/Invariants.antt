-- The boxes of the pieces so far.
use Rattle.std.proofs.Common.{◌≡◌, map}
use Rattle.zone_stretches.specs.Pieces.{piece_box}
use Rattle.zone_stretches.proofs.pieces.boxes_of_pieces.Given as goal

abbrev pub invariant-loop-piece : goal.invariant-loop-piece
invariant-loop-piece l = l.boxes.items ≡ map (λ piece. piece_box l.margin l.zone.sides piece l.cover) l.yielded
