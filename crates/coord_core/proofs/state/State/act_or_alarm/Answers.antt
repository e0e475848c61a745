use Rattle.std.proofs.Common.{ℕ, List, sym, ap, ◌∙◌}
use Rattle.coord_core.specs.Tables.{board_in}
use Rattle.sync_types.specs.Starts.{stand_once}
use Rattle.coord_core.proofs.Acts.{alarmed_board, numbers_after, zone_axes_after}
use Rattle.sync_types.specs.BoardActions.{after_part}
use Rattle.coord_core.proofs.state.State.act_or_alarm.Goals as goal

pub returns-in-Some-clause-kept : goal.returns-in-Some-clause-kept
returns-in-Some-clause-kept c = record {
  owners = c.requires.kept.owners;
  owner_numbers = c.requires.kept.owner_numbers;
  zones_once = ap (λ (ns : List ℕ). stand_once ns) (numbers_after c.args.self.now.table c.note_on.new.zones.items c.args.channel c.args.step.now.on c.note_on.ensures) ∙ c.requires.kept.zones_once;
  zone_axes = λ z. zone_axes_after c.args.self.now.table c.note_on.new.zones.items c.args.channel c.args.step.now.on c.note_on.ensures z ∙ c.requires.kept.zone_axes z;
}

pub returns-in-Some-clause-board : goal.returns-in-Some-clause-board
returns-in-Some-clause-board c =
    alarmed_board c.args.self.now.table c.note_on.new.zones.items c.note_positions.new.rows c.args.self.now.channels c.set_activity.new.channels c.args.channel c.args.step.now c.in-Some.code c.note_on.ensures c.note_positions.ensures c.set_activity.ensures
    ∙ ap (after_part (board_in c.args.self.now.table c.args.self.now.channels) c.args.channel c.args.step.now) (sym (sym c.alarm_of-alarm.ensures ∙ c.in-Some.is))
