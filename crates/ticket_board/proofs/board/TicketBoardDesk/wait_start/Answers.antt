use Rattle.coord_core.proofs.Outcomes.{tells_what_is}
use Rattle.coord_core.specs.declared.outcome.Outcome.{Outcome}
use Rattle.std.proofs.Common.{Some, ap, sym, ◌∙◌}
use Rattle.ticket_board.proofs.Waits.{look_closing}
use Rattle.ticket_board.proofs.board.TicketBoardDesk.wait_start.Goals as goal

pub returns-clause-memory : goal.returns-clause-memory
returns-clause-memory g c = let q = c.look_until.new.pass in λ is. (tells_what_is q.start q.seen q.channel).memory (sym c.look_until.ensures.looked.told ∙ ap (λ (o : Outcome). Some o) is)

pub returns-clause-closing : goal.returns-clause-closing
returns-clause-closing g c = look_closing c.args.pass.now c.look_until.new.pass c.look_until.result c.look_until.ensures.looked c.look_until.ensures.shut
