use Rattle.std.proofs.Common.{◌≡◌, ◌++◌, take}
use Rattle.std.specs.List.{flat_map}
use Rattle.explain_drawing.specs.Space.{label_part}
use Rattle.explain_drawing.proofs.space.put_labels.Given as goal

abbrev pub invariant-loop-tile : goal.invariant-loop-tile
invariant-loop-tile l = l.text ≡ l.initial.text ++ flat_map (label_part l.lines l.view) (take l.tile-index l.tiles)
