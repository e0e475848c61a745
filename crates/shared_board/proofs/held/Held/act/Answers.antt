use Rattle.std.proofs.Common.{subst}
use Rattle.coord_core.specs.BoardTurns.{Brings}
use Rattle.coord_core.specs.Histories.{history_of}
use Rattle.coord_core.specs.declared.locked.Locked.{Locked}
use Rattle.shared_board.proofs.held.Held.act.Goals as goal

pub returns-clause-turn : goal.returns-clause-turn
returns-clause-turn c =
    subst (λ (l : Locked). Brings l.board.start c.args.pass.now.channel c.args.step (history_of l) c.act_turn.result (history_of c.act_turn.new.locked)) c.self.view_is c.act_turn.ensures.turn
