use Rattle.std.proofs.Common.{◌≡◌, ◌++◌, drop}
use Rattle.std.specs.Prelude.{true}
use Rattle.explain_pictures.specs.Named.{labelled}
use Rattle.explain_pictures.proofs.named.add_pieces.Given as goal

abbrev pub invariant-loop-piece : goal.invariant-loop-piece
invariant-loop-piece l = l.tiles.items ++ labelled l.marked l.tile (drop l.piece-index l.pieces) ≡ l.initial.tiles.items ++ labelled true l.tile l.pieces
