use Rattle.std.proofs.Common.{Some, ap, ◌∙◌}
use Rattle.coord_core.proofs.Outcomes.{tells_what_is}
use Rattle.coord_core.specs.Histories.{history_of}
use Rattle.shared_board.proofs.memory.MemoryDeskDesk.wait_start.Goals as goal

pub returns-clause-memory : goal.returns-clause-memory
returns-clause-memory g c = λ is. (tells_what_is c.args.pass.now.locked.board.start (history_of c.args.pass.now.locked) c.args.pass.now.channel).memory (c.look_or_wait.ensures.answer ∙ ap Some is)
