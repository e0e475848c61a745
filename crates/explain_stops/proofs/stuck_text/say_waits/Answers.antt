use Rattle.explain_stops.specs.Stuck.{last_board}
use Rattle.explain_stops.proofs.stuck_text.say_waits.Goals as goal

pub returns : goal.returns
returns c = c.say_board.ensures (last_board c.args.start.now c.args.told.now.run.now) c.last_board-board.ensures
