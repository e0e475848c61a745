use Rattle.coord_core.specs.Desks.{Acts}
use Rattle.coord_core.specs.Histories.{runs}
use Rattle.std.proofs.Common.{ap, subst, sym, true, ◌||◌, ◌≡◌, ◌∙◌}
use Rattle.ticket_board.proofs.Turning.{act_goes, act_mark, acted, leaving, makes, turn_done}
use Rattle.ticket_board.specs.Passes.{Makes, TicketPassView, told_of}
use Rattle.ticket_board.specs.Steps.{Mine}
use Rattle.ticket_board.specs.Turns.{part_of, pass_view, wants_memory}
use Rattle.ticket_board.proofs.pass.TicketPass.act_once.Goals as goal

pub leave-requires : goal.leave-requires
leave-requires g c = let i = c.self.invariant in let m : Mine = c.self.inside.seat.me in let e = c.enter-held.ensures.entered in let b = c.enter-held.ensures.board in
    let on : runs m.0.start (part_of m.0).seen c.self.inside.channel ≡ true = subst (λ (v : TicketPassView). runs v.start v.seen v.channel ≡ true) (sym c.self.view_is) c.requires.runs in
    let goes = act_goes m c.self.inside.channel c.args.step c.enter-held.result c.act-answer.new.self c.act-answer.result c.to_count-more.result i b on c.act-answer.ensures.turn c.to_count-more.ensures.more in
    let t = leaving m c.enter-held.new.seat.me e.0 c.enter-held.result c.act-answer.new.self c.to_count-more.result e.1 c.act-answer.ensures.start b.0 goes c.to_count-more.ensures.few in
    record { table = (c.enter-held.ensures.same.0 ∙ (ap (λ (v : TicketPassView). v.table_id) c.self.view_is ∙ c.requires.table.0), c.requires.table.1); holds = t.0; slot = t.1; board = t.2 }

pub invariant_of-self : goal.invariant_of-self
invariant_of-self g c = let i = c.self.invariant in let m : Mine = c.self.inside.seat.me in let e = c.enter-held.ensures.entered in let b = c.enter-held.ensures.board in
    let on : runs m.0.start (part_of m.0).seen c.self.inside.channel ≡ true = subst (λ (v : TicketPassView). runs v.start v.seen v.channel ≡ true) (sym c.self.view_is) c.requires.runs in
    let goes = act_goes m c.self.inside.channel c.args.step c.enter-held.result c.act-answer.new.self c.act-answer.result c.to_count-more.result i b on c.act-answer.ensures.turn c.to_count-more.ensures.more in
    (turn_done m c.enter-held.new.seat.me c.leave.new.seat.me e.0 c.self.inside.channel c.enter-held.result c.act-answer.new.self c.to_count-more.result i e.1 b c.leave.ensures.left goes).pass

pub returns : goal.returns
returns g c = let i = c.self.invariant in let m : Mine = c.self.inside.seat.me in let e = c.enter-held.ensures.entered in let b = c.enter-held.ensures.board in
    let on : runs m.0.start (part_of m.0).seen c.self.inside.channel ≡ true = subst (λ (v : TicketPassView). runs v.start v.seen v.channel ≡ true) (sym c.self.view_is) c.requires.runs in
    let goes = act_goes m c.self.inside.channel c.args.step c.enter-held.result c.act-answer.new.self c.act-answer.result c.to_count-more.result i b on c.act-answer.ensures.turn c.to_count-more.ensures.more in
    let d = turn_done m c.enter-held.new.seat.me c.leave.new.seat.me e.0 c.self.inside.channel c.enter-held.result c.act-answer.new.self c.to_count-more.result i e.1 b c.leave.ensures.left goes in
    record {
      table = (c.leave.ensures.same.0 ∙ c.enter-held.ensures.same.0) ∙ ap (λ (v : TicketPassView). v.table_id) c.self.view_is;
      mine = subst (λ (v : TicketPassView). Makes v c.args.step c.act-answer.result (pass_view c.leave.new.seat.table_id c.leave.new.seat.me c.self.inside.channel)) c.self.view_is
          (makes c.self.inside.seat.table_id c.leave.new.seat.table_id m c.leave.new.seat.me c.self.inside.channel c.args.step c.enter-held.result c.act-answer.new.self c.act-answer.result i d b.0 on c.act-answer.ensures.turn);
      acted = subst (λ (v : TicketPassView). Acts (told_of v) c.args.step c.act-answer.result (told_of (pass_view c.leave.new.seat.table_id c.leave.new.seat.me c.self.inside.channel))) c.self.view_is
          (acted c.self.inside.seat.table_id c.leave.new.seat.table_id m c.leave.new.seat.me c.self.inside.channel c.args.step c.enter-held.result c.act-answer.new.self c.act-answer.result b.0 c.act-answer.ensures.turn d);
      seen = subst (λ (v : TicketPassView). v.shut ≡ true → v.seen.closed ≡ true) c.self.view_is i.6;
      shut = act_mark m c.leave.new.seat.me c.self.inside.channel c.args.step c.enter-held.result c.act-answer.new.self c.act-answer.result d b.0 on c.act-answer.ensures.turn
          ∙ ap (λ (v : TicketPassView). v.shut || wants_memory c.act-answer.result) c.self.view_is;
    }
