use Rattle.std.proofs.Common.{ℕ, List, map, ◌∙◌}
use Rattle.coord_core.specs.Tables.{board_in}
use Rattle.std.proofs.Common.{ap₂}
use Rattle.coord_core.proofs.Acts.{acted_board, starts_alike}
use Rattle.sync_types.specs.BoardActions.{after_effects}
use Rattle.sync_types.specs.GoingOn.{Going, go_of}
use Rattle.coord_core.proofs.state.State.act.Goals as goal

pub returns-clause-board : goal.returns-clause-board
returns-clause-board c =
    acted_board c.apply.new.self.table c.apply.new.self.channels c.start_channels.new.channels c.set_activity.new.channels (after_effects (board_in c.args.self.now.table c.args.self.now.channels) c.args.channel c.args.step.now) c.args.channel c.args.step.now c.actor_after-actor.result c.channels_to_start-named.result
    c.apply.ensures.board c.actor_after-actor.ensures c.channels_to_start-named.ensures.members c.start_channels.ensures.channels c.set_activity.ensures

pub returns-clause-goes : goal.returns-clause-goes
returns-clause-goes c =
    c.start_channels.ensures.goes
    ∙ ap₂ (λ (g : ℕ → Going) (cs : List ℕ). map go_of (map g cs)) (starts_alike c.apply.new.self.table c.apply.new.self.channels c.set_activity.new.channels) c.channels_to_start-named.ensures.members
