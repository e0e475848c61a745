use Rattle.coord_core.proofs.Acts.{gone_board}
use Rattle.coord_core.proofs.state.State.let_go.Goals as goal

pub returns-clause-board : goal.returns-clause-board
returns-clause-board c =
    gone_board c.args.self.now.table c.lower_own_marks.new.marks c.args.self.now.channels c.run_on.new.channels c.channels_that_go-goers.result c.channels_that_go-goers.ensures c.lower_own_marks.ensures c.run_on.ensures.channels
