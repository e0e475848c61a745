use Rattle.std.proofs.Common.{◌≡◌, ◌++◌, take}
use Rattle.std.specs.List.{flat_map}
use Rattle.explain_drawing.specs.Space.{tile_part}
use Rattle.explain_drawing.proofs.space.put_tiles.Given as goal

abbrev pub invariant-loop-tile : goal.invariant-loop-tile
invariant-loop-tile l = l.text ≡ l.initial.text ++ flat_map (tile_part l.told.lines.now l.told.job.now l.view) (take l.tile-index l.tiles)
