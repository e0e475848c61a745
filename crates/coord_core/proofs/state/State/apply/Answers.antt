use Rattle.std.proofs.Common.{ℕ, List, map, None, refl, ap, ◌∙◌}
use Rattle.coord_core.specs.Tables.{board_in}
use Rattle.sync_types.specs.Starts.{stand_once}
use Rattle.coord_core.proofs.ZoneLaws.{axes_handed, numbers_handed}
use Rattle.coord_core.specs.Tables.{axes_in}
use Rattle.coord_core.specs.declared.zones.ZoneState.{ZoneState}
use Rattle.coord_core.proofs.Acts.{no_alarm, own_freed, owners_freed, numbers_freed, axes_freed, holders_freed, on_freed, axes_stay, holders_stay, on_told, effects_board, numbers_after, zone_axes_after}
use Rattle.coord_core.proofs.state.State.apply.Goals as goal

pub change_marks-requires : goal.change_marks-requires
change_marks-requires c = (no_alarm (board_in c.args.self.now.table c.args.self.now.channels) c.args.channel c.args.step.now.action c.requires.no_alarm).0

pub release-requires-clause-own : goal.release-requires-clause-own
release-requires-clause-own c = own_freed c.args.self.now.table c.args.self.now.channels c.args.channel c.args.step.now.action c.in-Release.axes c.in-Release.is (no_alarm (board_in c.args.self.now.table c.args.self.now.channels) c.args.channel c.args.step.now.action c.requires.no_alarm).1

pub returns-in-Release-clause-kept : goal.returns-in-Release-clause-kept
returns-in-Release-clause-kept c = record {
  owners = owners_freed c.args.self.now.table c.release.new.self c.args.step.now c.in-Release.axes c.full_positions-at.result c.requires.kept c.full_positions-at.ensures c.release.ensures.states;
  owner_numbers = numbers_freed c.args.self.now.table c.release.new.self c.in-Release.axes c.full_positions-at.result c.requires.kept c.release.ensures.states;
  zones_once = ap (λ (zs : List ZoneState). stand_once (map (λ (zone : ZoneState). zone.zone) zs)) c.hand_over.ensures
      ∙ ap (λ (ns : List ℕ). stand_once ns) (numbers_handed c.in-Release.axes None c.note_on.new.zones.items ∙ numbers_after c.args.self.now.table c.note_on.new.zones.items c.args.channel c.args.step.now.on c.note_on.ensures)
      ∙ c.requires.kept.zones_once;
  zone_axes = λ z. ap (λ (zs : List ZoneState). axes_in zs z) c.hand_over.ensures ∙ axes_handed c.in-Release.axes None c.note_on.new.zones.items z
      ∙ zone_axes_after c.args.self.now.table c.note_on.new.zones.items c.args.channel c.args.step.now.on c.note_on.ensures z ∙ c.requires.kept.zone_axes z;
}

pub returns-in-Release-clause-board : goal.returns-in-Release-clause-board
returns-in-Release-clause-board c =
    effects_board c.args.self.now.table _ c.args.self.now.channels c.args.channel c.args.step.now refl c.change_marks.ensures c.select_program.ensures c.note_positions.ensures
    (axes_freed c.args.self.now.table c.release.new.self c.args.self.now.channels c.args.step.now c.in-Release.axes c.full_positions-at.result c.in-Release.is c.full_positions-at.ensures c.release.ensures.states)
    (holders_freed c.args.self.now.table c.hand_over.new.zones.items c.note_on.new.zones.items c.args.self.now.channels c.args.channel c.args.step.now c.in-Release.axes c.requires.kept c.in-Release.is c.note_on.ensures c.hand_over.ensures)
    (on_freed c.args.self.now.table c.hand_over.new.zones.items c.note_on.new.zones.items c.args.self.now.channels c.args.channel c.args.step.now c.in-Release.axes c.note_on.ensures c.hand_over.ensures)

pub returns-in_default : goal.returns-in_default
returns-in_default c = record {
  kept = record {
    owners = c.requires.kept.owners;
    owner_numbers = c.requires.kept.owner_numbers;
    zones_once = ap (λ (ns : List ℕ). stand_once ns) (numbers_after c.args.self.now.table c.note_on.new.zones.items c.args.channel c.args.step.now.on c.note_on.ensures) ∙ c.requires.kept.zones_once;
    zone_axes = λ z. zone_axes_after c.args.self.now.table c.note_on.new.zones.items c.args.channel c.args.step.now.on c.note_on.ensures z ∙ c.requires.kept.zone_axes z;
  };
  channels = refl;
  board = effects_board c.args.self.now.table _ c.args.self.now.channels c.args.channel c.args.step.now refl c.change_marks.ensures c.select_program.ensures c.note_positions.ensures
      (axes_stay c.args.self.now.table c.args.self.now.channels c.args.step.now c.in_default.not-Release)
      (holders_stay c.args.self.now.table c.note_on.new.zones.items c.args.self.now.channels c.args.channel c.args.step.now c.note_on.ensures c.in_default.not-Release)
      (on_told c.args.self.now.table c.note_on.new.zones.items c.args.self.now.channels c.args.channel c.args.step.now c.note_on.ensures);
}
