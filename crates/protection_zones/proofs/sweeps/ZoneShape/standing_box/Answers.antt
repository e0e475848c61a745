use Rattle.std.proofs.Common.{ap, None}
use Rattle.swept_boxes.specs.declared.Box3.{Box3}
use Rattle.protection_zones.specs.Sweeps.{standing_box}
use Rattle.zone_stretches.specs.declared.stretches.ZoneBox.{ZoneBox}
use Rattle.protection_zones.proofs.sweeps.ZoneShape.standing_box.Goals as goal

pub returns : goal.returns
unfolding standing_box
returns c = ap (λ (cover : Box3). let shown : ZoneBox = record { line = c.args.line; motion = None; from = c.args.from; to = c.args.from; cover = cover } in shown) c.standing_zone_box.ensures
