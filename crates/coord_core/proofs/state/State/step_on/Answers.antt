use Rattle.std.proofs.Common.{ap, ◌∙◌}
use Rattle.coord_core.specs.Tables.{board_in}
use Rattle.coord_core.proofs.Entering.{room_at_once, room_after, goes_of_step}
use Rattle.sync_types.specs.Boards.{Board}
use Rattle.sync_types.specs.GoingOn.{after_goes, all_takings}
use Rattle.coord_core.proofs.state.State.step_on.Goals as goal

pub let_go-requires : goal.let_go-requires
let_go-requires c = record {
  kept = c.act_or_alarm.ensures.kept;
  room = room_at_once (board_in c.args.self.now.table c.args.self.now.channels) (board_in c.act_or_alarm.new.self.table c.act_or_alarm.new.self.channels) c.args.channel c.args.step.now c.act_or_alarm.new.goes.items c.act_or_alarm.ensures.named c.act_or_alarm.ensures.board c.act_or_alarm.ensures.goes;
}

pub hand_out_axes-requires : goal.hand_out_axes-requires
hand_out_axes-requires c = record {
  kept = c.let_go.ensures.kept;
  room = room_after (board_in c.args.self.now.table c.args.self.now.channels) (board_in c.act_or_alarm.new.self.table c.act_or_alarm.new.self.channels) (board_in c.let_go.new.self.table c.let_go.new.self.channels) c.args.channel c.args.step.now c.act_or_alarm.new.goes.items c.let_go.new.goes.items c.act_or_alarm.ensures.named c.act_or_alarm.ensures.board c.act_or_alarm.ensures.goes c.let_go.ensures.goes c.let_go.ensures.board;
}

pub returns-clause-board : goal.returns-clause-board
returns-clause-board c =
    c.hand_out_axes.ensures.board ∙ ap (λ (b : Board). (all_takings b).board) (c.let_go.ensures.board ∙ ap after_goes c.act_or_alarm.ensures.board)

pub returns-clause-goes : goal.returns-clause-goes
returns-clause-goes c =
    goes_of_step (board_in c.args.self.now.table c.args.self.now.channels) (board_in c.act_or_alarm.new.self.table c.act_or_alarm.new.self.channels) (board_in c.let_go.new.self.table c.let_go.new.self.channels) c.args.channel c.args.step.now c.act_or_alarm.new.goes.items c.let_go.new.goes.items c.hand_out_axes.new.goes.items c.act_or_alarm.ensures.board c.act_or_alarm.ensures.goes c.let_go.ensures.goes c.let_go.ensures.board c.hand_out_axes.ensures.goes
