use Rattle.std.proofs.Common.{◌≡◌, ◌++◌, drop}
use Rattle.protection_zones.specs.Sweeps.{sweep, opened_at_first}
use Rattle.axis_sets.specs.Sets.{has}
use Rattle.zone_stretches.specs.Rows.{positions_in}
use Rattle.protection_zones.proofs.sweeps.ZoneShape.write_boxes.Given as goal

abbrev pub invariant-loop-place : goal.invariant-loop-place
invariant-loop-place l =
    l.boxes.items ++ sweep l.self.margin l.self.zone.now l.place l.opened (positions_in l.at) (drop l.place l.items)
    ≡ sweep l.self.margin l.self.zone.now 0 (opened_at_first l.self.margin l.self.zone.now (has l.begins.on l.self.zone.now.zone) l.begins.line (positions_in l.begins.at)) (positions_in l.begins.at) l.items
