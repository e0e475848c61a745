use Rattle.std.proofs.Common.{◌∙◌, ◌∷◌, [], ap, sym}
use Rattle.zone_stretches.specs.Rows.{positions_in}
use Rattle.zone_stretches.specs.declared.stretches.ZoneBox.{ZoneBox}
use Rattle.protection_zones.proofs.BoxLaws.{box_at_rest, no_box_at_rest}
use Rattle.protection_zones.proofs.sweeps.ZoneShape.boxes_at_rest.Goals as goal

pub returns-in_ok-from_array : goal.returns-in_ok-from_array
returns-in_ok-from_array c =
    rw (sym c.is_on.ensures ∙ c.if-is_on.true) (c.in_ok-from_array.ensures.items ∙ (ap (λ (box : ZoneBox). box ∷ []) c.standing_box.ensures ∙ box_at_rest c.args.self.now.margin c.args.self.now.zone.now c.args.begins.now.line (positions_in c.args.begins.now.at)))

pub returns-else-is_on : goal.returns-else-is_on
returns-else-is_on c = rw (sym c.is_on.ensures ∙ c.if-is_on.false) (c.new.ensures.items ∙ no_box_at_rest c.args.self.now.margin c.args.self.now.zone.now c.args.begins.now.line (positions_in c.args.begins.now.at))
