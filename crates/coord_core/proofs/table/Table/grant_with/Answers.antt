use Rattle.std.proofs.Common.{ℕ, ◌==◌, ◌&&◌, List, None, ap, ◌∙◌}
use Rattle.coord_core.proofs.GrantLaws.{granted}
use Rattle.coord_core.specs.declared.zones.ZoneState.{ZoneState}
use Rattle.std.specs.List.{list_any}
use Rattle.sync_types.specs.Boards.{is_this}
use Rattle.std.proofs.Common.{slice_index_or}
use Rattle.coord_core.proofs.table.Table.grant_with.Goals as goal

pub returns : goal.returns
returns c = λ channels. granted c.args.self.now channels c.args.channel c.args.at c.owned_by.result c.zones_on.result _ c.requires.kept
    c.owned_by.ensures.members c.owned_by.ensures.size
    (λ z. c.zones_on.ensures.members z ∙ ap (λ (zones : List ZoneState). list_any (λ zone. (zone.zone == z) && (is_this zone.holder c.args.channel && zone.on)) zones) c.as_slice.ensures.value)
    c.zones_on.ensures.none c.zones_on.ensures.size (ap (λ (k : ℕ). slice_index_or c.args.self.now.programs k None) (c.from.ensures ∙ c.channel.view_is))
