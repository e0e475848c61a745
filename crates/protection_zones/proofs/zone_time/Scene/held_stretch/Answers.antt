use Rattle.std.proofs.Common.{All}
use Rattle.protection_zones.specs.Beginnings.{all_items}
use Rattle.zone_stretches.specs.ZoneBoxes.{IsFit}
use Rattle.protection_zones.proofs.NoteLaws.{all_none}
use Rattle.protection_zones.proofs.SpanLaws.{items_hold}
use Rattle.protection_zones.proofs.zone_time.Scene.held_stretch.Goals as goal

pub boxes-requires-clause-fit : goal.boxes-requires-clause-fit
boxes-requires-clause-fit c = rw c.items_until.ensures (items_hold (All IsFit) (all_items c.args.self.now.items.now) c.first_at-last.result c.requires.fit (all_none IsFit))
