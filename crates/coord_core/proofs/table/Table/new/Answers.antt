use Rattle.std.proofs.Common.{ℕ, ℤ, Option, List, map, refl, sym, ap, ◌∙◌}
use Rattle.coord_core.proofs.Acts.{same_boards}
use Rattle.coord_core.proofs.Starting.{numbers_at_first, axes_at_first, holder_at_first, on_at_first, numbers_at_first_owner}
use Rattle.coord_core.specs.Tables.{axes_in, holder_in, is_on_in, last_position_in}
use Rattle.coord_core.specs.declared.zones.ZoneState.{ZoneState}
use Rattle.sync_types.specs.Starts.{stand_once, axes_of_zone, first_position}
use Rattle.sync_types.specs.Views.{StartView}
use Rattle.coord_core.proofs.table.Table.new.Goals as goal

pub returns-clause-kept : goal.returns-clause-kept
returns-clause-kept c = record {
  owners = c.owners_at_first.ensures.all;
  owner_numbers = λ x d is. numbers_at_first_owner c.args.start.now c.owners_at_first.result c.channels_at_first-known.result c.requires.sound
      c.channels_at_first-known.ensures.members c.channels_at_first-known.ensures.none c.channels_at_first-known.ensures.size c.owners_at_first.ensures.owners x d is;
  zones_once = ap (λ (zs : List ZoneState). stand_once (map (λ (zone : ZoneState). zone.zone) zs)) c.zones_at_first.ensures
      ∙ ap (λ (ns : List ℕ). stand_once ns) (numbers_at_first c.args.start.now.zones) ∙ c.requires.sound.zones_once;
  zone_axes = λ z. ap (λ (zs : List ZoneState). axes_in zs z) c.zones_at_first.ensures ∙ axes_at_first c.args.start.now.zones z
      ∙ ap (λ (s : StartView). axes_of_zone s z) (sym c.copy_of.ensures);
}

pub returns-clause-board : goal.returns-clause-board
returns-clause-board c = λ channels. same_boards _ _ c.copy_of.ensures c.new.ensures.none (λ d. refl) c.programs_at_first.ensures (λ d x. ap (λ (row : Option (List (Option ℤ))). last_position_in c.copy_of.result row x) (c.no_positions.ensures d) ∙ ap (λ (s : StartView). first_position s x) c.copy_of.ensures) c.owners_at_first.ensures.owners
    (λ z. ap (λ (zs : List ZoneState). holder_in zs z) c.zones_at_first.ensures ∙ holder_at_first c.args.start.now.zones z)
    (λ z. ap (λ (zs : List ZoneState). is_on_in zs z) c.zones_at_first.ensures ∙ on_at_first c.args.start.now.zones z)
