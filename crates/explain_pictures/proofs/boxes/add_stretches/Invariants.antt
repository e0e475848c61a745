use Rattle.std.proofs.Common.{◌≡◌, ◌++◌, take}
use Rattle.std.specs.List.{flat_map}
use Rattle.explain_pictures.specs.Boxes.{tiles_of_stretch}
use Rattle.explain_pictures.specs.Focus.{view_of}
use Rattle.explain_pictures.proofs.boxes.add_stretches.Given as goal

abbrev pub invariant-loop-stretch : goal.invariant-loop-stretch
invariant-loop-stretch l = take l.limit l.tiles.items ≡ take l.limit (l.initial.tiles.items ++ flat_map (tiles_of_stretch (view_of l.scene) l.zone) (take l.stretch-index l.stretches))
