use Rattle.std.proofs.Common.{ap, ◌∙◌}
use Rattle.coord_core.specs.Tables.{board_in}
use Rattle.coord_core.proofs.Acts.{actor_runs_on}
use Rattle.coord_core.proofs.GrantLaws.{no_positions_listed}
use Rattle.sync_types.specs.Boards.{grant_with}
use Rattle.coord_core.proofs.state.State.actor_after.Goals as goal

pub returns-in_default : goal.returns-in_default
returns-in_default c =
    actor_runs_on (board_in c.args.self.now.table c.args.self.now.channels) c.args.channel c.args.step.now.line c.args.step.now.action c.grant_with.result
    c.in_default.not-WaitM c.in_default.not-WaitE c.in_default.not-Get c.in_default.not-End
    (c.grant_with.ensures c.args.self.now.channels ∙ ap (grant_with (board_in c.args.self.now.table c.args.self.now.channels) c.args.channel) (no_positions_listed c.empty.result c.empty.ensures.none c.empty.ensures.size))
