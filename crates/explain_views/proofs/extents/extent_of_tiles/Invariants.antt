use Rattle.std.proofs.Common.{◌≡◌, take}
use Rattle.std.specs.List.{fold}
use Rattle.explain_views.specs.Extents.{origin, reach_tile}
use Rattle.explain_views.proofs.extents.extent_of_tiles.Given as goal

abbrev pub invariant-loop-tile : goal.invariant-loop-tile
invariant-loop-tile l = l.extent ≡ fold (reach_tile l.direction) origin (take l.tile-index l.tiles)
