use Rattle.coord_core.proofs.Running.{runs_on, seen_running}
use Rattle.coord_core.proofs.laws.others_let_a_channel_run.Goals as goal

pub returns-clause-board : goal.returns-clause-board
returns-clause-board c = runs_on

pub returns-clause-seen : goal.returns-clause-seen
returns-clause-seen c = seen_running
