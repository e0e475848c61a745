use Rattle.std.proofs.Common.{Some, sym, ap, ◌∙◌}
use Rattle.coord_core.proofs.Outcomes.{tells_what_is}
use Rattle.shared_board.proofs.shared.SharedBoard.look_and_wait.Goals as goal

pub returns-in-Some-look : goal.returns-in-Some-look
returns-in-Some-look g c = λ is. (tells_what_is _ _ c.args.pass.now.channel).memory (sym c.look.ensures.answer ∙ c.in-Some-look.is ∙ ap Some is)
