use Rattle.coord_core.specs.Desks.{Later}
use Rattle.ticket_board.proofs.Waits.{act_closing, makes_then, wait_closing}
use Rattle.ticket_board.specs.Passes.{told_of}
use Rattle.ticket_board.proofs.board.TicketBoardDesk.act_and_wait.Goals as goal

pub returns-in-Some-clause-closing : goal.returns-in-Some-clause-closing
returns-in-Some-clause-closing g c = act_closing c.args.pass.now c.act_once.new.self c.args.step c.in-Some.outcome c.in-Some.ensures.acted c.in-Some.ensures.seen c.in-Some.ensures.shut

pub returns-in-None-clause-told : goal.returns-in-None-clause-told
returns-in-None-clause-told g c = Later (told_of c.act_once.new.self) c.in-None.ensures.acted c.look_until.ensures.looked

pub returns-in-None-clause-closing : goal.returns-in-None-clause-closing
returns-in-None-clause-closing g c = wait_closing c.args.pass.now c.act_once.new.self c.look_until.new.pass c.args.step c.look_until.result c.in-None.ensures.acted c.in-None.ensures.shut c.look_until.ensures.looked c.look_until.ensures.shut

pub returns-in-None-clause-mine : goal.returns-in-None-clause-mine
returns-in-None-clause-mine g c = makes_then c.args.pass.now c.act_once.new.self c.look_until.new.pass c.args.step c.look_until.result c.in-None.ensures.mine c.look_until.ensures.mine
