use Rattle.std.proofs.Common.{◌≡◌, ◌++◌, map, take}
use Rattle.explain_pictures.specs.Boxes.{in_piece}
use Rattle.explain_pictures.proofs.boxes.add_pieces.Given as goal

abbrev pub invariant-loop-piece : goal.invariant-loop-piece
invariant-loop-piece l = take l.limit l.tiles.items ≡ take l.limit (l.initial.tiles.items ++ map (in_piece l.tile) (take l.piece-index l.pieces))
