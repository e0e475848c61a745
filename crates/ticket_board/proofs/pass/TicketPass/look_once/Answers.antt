use Rattle.coord_core.specs.Desks.{Looks}
use Rattle.coord_core.specs.Histories.{history_of}
use Rattle.std.proofs.Common.{ap, arith, inl, refl, subst, ◌∙◌}
use Rattle.ticket_board.proofs.Turning.{leaving, look_mark, looked, mine_same, turn_done}
use Rattle.ticket_board.specs.Passes.{TicketPassView, told_of}
use Rattle.ticket_board.specs.Steps.{Goes, Mine, with_seen}
use Rattle.ticket_board.specs.Turns.{part_of, pass_view}
use Rattle.ticket_board.proofs.pass.TicketPass.look_once.Goals as goal

pub leave-requires : goal.leave-requires
leave-requires g c = let m : Mine = c.self.inside.seat.me in let e = c.enter-held.ensures.entered in let b = c.enter-held.ensures.board in
    let goes : Goes m.0.start (with_seen (history_of c.enter-held.result) (part_of m.0)) (history_of c.enter-held.result) 0 = inl (refl, refl) in
    let few = c.to_count-more.ensures.few in
    let t = leaving m c.enter-held.new.seat.me e.0 c.enter-held.result c.enter-held.result 0 e.1 refl b.0 goes (omega (arith, few)) in
    record { table = (c.enter-held.ensures.same.0 ∙ (ap (λ (v : TicketPassView). v.table_id) c.self.view_is ∙ c.requires.0), c.requires.1); holds = t.0; slot = t.1; board = t.2 }

pub invariant_of-self : goal.invariant_of-self
invariant_of-self g c = let i = c.self.invariant in let m : Mine = c.self.inside.seat.me in let e = c.enter-held.ensures.entered in let b = c.enter-held.ensures.board in
    let goes : Goes m.0.start (with_seen (history_of c.enter-held.result) (part_of m.0)) (history_of c.enter-held.result) 0 = inl (refl, refl) in
    (turn_done m c.enter-held.new.seat.me c.leave.new.seat.me e.0 c.self.inside.channel c.enter-held.result c.enter-held.result 0 i e.1 b c.leave.ensures.left goes).pass

pub returns : goal.returns
returns g c = let i = c.self.invariant in let m : Mine = c.self.inside.seat.me in let e = c.enter-held.ensures.entered in let b = c.enter-held.ensures.board in
    let goes : Goes m.0.start (with_seen (history_of c.enter-held.result) (part_of m.0)) (history_of c.enter-held.result) 0 = inl (refl, refl) in
    let d = turn_done m c.enter-held.new.seat.me c.leave.new.seat.me e.0 c.self.inside.channel c.enter-held.result c.enter-held.result 0 i e.1 b c.leave.ensures.left goes in
    record {
      table = (c.leave.ensures.same.0 ∙ c.enter-held.ensures.same.0) ∙ ap (λ (v : TicketPassView). v.table_id) c.self.view_is;
      mine = mine_same m c.leave.new.seat.me c.self.inside.channel c.enter-held.result c.enter-held.result i refl d ∙ ap (λ (v : TicketPassView). v.mine) c.self.view_is;
      looked = subst (λ (v : TicketPassView). Looks (told_of v) c.look-answer.result (told_of (pass_view c.leave.new.seat.table_id c.leave.new.seat.me c.self.inside.channel))) c.self.view_is
          (looked c.self.inside.seat.table_id c.leave.new.seat.table_id m c.leave.new.seat.me c.self.inside.channel c.enter-held.result c.look-answer.result b.0 c.look-answer.ensures.answer d);
      shut = look_mark m c.leave.new.seat.me c.self.inside.channel c.enter-held.result d ∙ ap (λ (v : TicketPassView). v.shut) c.self.view_is;
    }
