use Rattle.std.proofs.Common.{◌≡◌, ◌++◌, take}
use Rattle.std.specs.List.{flat_map}
use Rattle.explain_pictures.specs.Boxes.{tiles_of_box}
use Rattle.explain_pictures.proofs.boxes.add_stretch.Given as goal

abbrev pub invariant-loop-own : goal.invariant-loop-own
invariant-loop-own l = take l.limit l.tiles.items ≡ take l.limit (l.initial.tiles.items ++ flat_map (tiles_of_box l.drawn.job.now l.drawn.run.now l.drawn.pale l.drawn.zone.now l.drawn.stretch.now) (take l.own-index l.own-items))
