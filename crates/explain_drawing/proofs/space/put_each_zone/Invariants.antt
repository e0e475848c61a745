use Rattle.std.proofs.Common.{◌≡◌, ◌++◌, take}
use Rattle.std.specs.List.{flat_map}
use Rattle.explain_drawing.specs.Space.{zone_part}
use Rattle.explain_drawing.proofs.space.put_each_zone.Given as goal

abbrev pub invariant-loop-zone : goal.invariant-loop-zone
invariant-loop-zone l = l.text ≡ l.initial.text ++ flat_map (zone_part l.lines l.view l.tiles) (take l.zone-index l.zones)
