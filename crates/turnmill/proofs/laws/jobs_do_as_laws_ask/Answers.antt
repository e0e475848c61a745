use Rattle.turnmill.proofs.JobDoings.{sound_doings, tell_the_board}
use Rattle.turnmill.proofs.laws.jobs_do_as_laws_ask.Goals as goal

pub returns-clause-moves : goal.returns-clause-moves
returns-clause-moves c = sound_doings

pub returns-clause-tells : goal.returns-clause-tells
returns-clause-tells c = tell_the_board
