use Rattle.coord_core.specs.Boards.{BoardView}
use Rattle.coord_core.specs.Desks.{Closes}
use Rattle.std.proofs.Common.{ap, subst, ◌∙◌}
use Rattle.ticket_board.proofs.Turning.{close_mark, closed, leaving, mine_same, shut_goes, turn_done}
use Rattle.ticket_board.specs.Passes.{PutsMark, TicketPassView, told_of}
use Rattle.ticket_board.specs.Steps.{Mine}
use Rattle.ticket_board.specs.Turns.{pass_view}
use Rattle.ticket_board.proofs.pass.TicketPass.close_once.Goals as goal

pub leave-requires : goal.leave-requires
leave-requires g c = let m : Mine = c.self.inside.seat.me in let e = c.enter-held.ensures.entered in let b = c.enter-held.ensures.board in
    let goes = shut_goes m c.enter-held.result c.close.new.self c.to_count-more.result c.close.ensures.turn c.to_count-more.ensures.more in
    let t = leaving m c.enter-held.new.seat.me e.0 c.enter-held.result c.close.new.self c.to_count-more.result e.1 (ap (λ (v : BoardView). v.start) c.close.ensures.board) b.0 goes c.to_count-more.ensures.few in
    record { table = (c.enter-held.ensures.same.0 ∙ (ap (λ (v : TicketPassView). v.table_id) c.self.view_is ∙ c.requires.0), c.requires.1); holds = t.0; slot = t.1; board = t.2 }

pub invariant_of-self : goal.invariant_of-self
invariant_of-self g c = let i = c.self.invariant in let m : Mine = c.self.inside.seat.me in let e = c.enter-held.ensures.entered in let b = c.enter-held.ensures.board in
    let goes = shut_goes m c.enter-held.result c.close.new.self c.to_count-more.result c.close.ensures.turn c.to_count-more.ensures.more in
    (turn_done m c.enter-held.new.seat.me c.leave.new.seat.me e.0 c.self.inside.channel c.enter-held.result c.close.new.self c.to_count-more.result i e.1 b c.leave.ensures.left goes).pass

pub returns : goal.returns
returns g c = let i = c.self.invariant in let m : Mine = c.self.inside.seat.me in let e = c.enter-held.ensures.entered in let b = c.enter-held.ensures.board in
    let goes = shut_goes m c.enter-held.result c.close.new.self c.to_count-more.result c.close.ensures.turn c.to_count-more.ensures.more in
    let d = turn_done m c.enter-held.new.seat.me c.leave.new.seat.me e.0 c.self.inside.channel c.enter-held.result c.close.new.self c.to_count-more.result i e.1 b c.leave.ensures.left goes in
    record {
      table = (c.leave.ensures.same.0 ∙ c.enter-held.ensures.same.0) ∙ ap (λ (v : TicketPassView). v.table_id) c.self.view_is;
      mine = mine_same m c.leave.new.seat.me c.self.inside.channel c.enter-held.result c.close.new.self i (ap (λ (v : BoardView). v.entries) c.close.ensures.board) d ∙ ap (λ (v : TicketPassView). v.mine) c.self.view_is;
      closes = subst (λ (v : TicketPassView). Closes (told_of v) (told_of (pass_view c.leave.new.seat.table_id c.leave.new.seat.me c.self.inside.channel))) c.self.view_is
          (closed c.self.inside.seat.table_id c.leave.new.seat.table_id m c.leave.new.seat.me c.self.inside.channel c.enter-held.result c.close.new.self c.close.ensures.turn d);
      shut = subst (λ (v : TicketPassView). PutsMark v (pass_view c.leave.new.seat.table_id c.leave.new.seat.me c.self.inside.channel)) c.self.view_is
          (close_mark c.self.inside.seat.table_id c.leave.new.seat.table_id m c.leave.new.seat.me c.self.inside.channel c.enter-held.result c.close.new.self c.close.ensures.turn d);
    }
