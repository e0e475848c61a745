use Rattle.std.proofs.Common.{List, ap, arith, length, ◌≡◌, ◌∙◌}
use Rattle.ticket_board.proofs.Turning.{entered, reads_hit, reads_miss, taken_out}
use Rattle.ticket_board.specs.Steps.{Mine}
use Rattle.ticket_board.specs.Turns.{part_of}
use Rattle.ticket_board.specs.declared.rule.ChannelPart.{ChannelPart}
use Rattle.ticket_board.proofs.turn.enter.Goals as goal

pub draw-ticket-requires : goal.draw-ticket-requires
draw-ticket-requires g c = let e : length c.args.seat.now.me.0.parts ≡ 1 = ap (λ (ps : List ChannelPart). length ps) c.requires.idle.2 in record { table = c.requires.table; idle = (c.requires.idle.0, omega (arith, e)) }

pub read-requires : goal.read-requires
read-requires g c = let d = c.draw-ticket.ensures.drawn in let i = c.loop.invariant in let me = i.2 ∙ d.2 in
    let e : length c.loop.seat.me.0.parts ≡ 1 = ap (λ (m : Mine). length m.0.parts) me ∙ ap (λ (ps : List ChannelPart). length ps) c.requires.idle.2 in record {
      table = (i.0 ∙ (c.draw-ticket.ensures.same.0 ∙ c.requires.table.0), c.requires.table.1);
      waits = (omega (arith, e), (d.0, ap (λ (m : Mine). m.0.stage) me));
    }

pub take_board-requires : goal.take_board-requires
take_board-requires g c = let d = c.draw-ticket.ensures.drawn in let i = c.loop.invariant in let me = i.2 ∙ d.2 in
    let t = reads_hit c.loop.seat.me c.read.new.seat.me c.read.result c.draw-ticket.result d.0 (ap (λ (m : Mine). m.0.stage) me) d.1 c.if-read-ticket.true c.read.ensures.read in
    let h = entered c.args.seat.now.me c.loop.seat.me c.read.new.seat.me (part_of c.args.seat.now.me.0) d.0 c.requires.idle.1 c.requires.idle.2 me t in record {
      table = c.read.ensures.same.0 ∙ (i.0 ∙ (c.draw-ticket.ensures.same.0 ∙ c.requires.table.0));
      holds = (h.0, ap (λ (m : Mine). m.1) h.1);
    }

pub loop-preserved : goal.loop-preserved
loop-preserved g c = let d = c.draw-ticket.ensures.drawn in let i = c.loop.invariant in let me = i.2 ∙ d.2 in (
  c.read.ensures.same.0 ∙ i.0,
  c.read.ensures.same.1 ∙ i.1,
  reads_miss c.loop.seat.me c.read.new.seat.me c.read.result c.draw-ticket.result d.0 (ap (λ (m : Mine). m.0.stage) me) d.1 c.if-read-ticket.false c.read.ensures.read ∙ i.2,
)

pub returns-then-read-ticket : goal.returns-then-read-ticket
returns-then-read-ticket g c = let d = c.draw-ticket.ensures.drawn in let i = c.loop.invariant in let me = i.2 ∙ d.2 in
    let t = reads_hit c.loop.seat.me c.read.new.seat.me c.read.result c.draw-ticket.result d.0 (ap (λ (m : Mine). m.0.stage) me) d.1 c.if-read-ticket.true c.read.ensures.read in
    let h = entered c.args.seat.now.me c.loop.seat.me c.read.new.seat.me (part_of c.args.seat.now.me.0) d.0 c.requires.idle.1 c.requires.idle.2 me t in
    let o = taken_out c.args.seat.now.me c.read.new.seat.me c.take_board.new.seat.me (part_of c.args.seat.now.me.0) d.0 c.take_board.result h c.take_board.ensures.taken.0 c.take_board.ensures.taken.1 in record {
      same = (c.take_board.ensures.same.0 ∙ (c.read.ensures.same.0 ∙ (i.0 ∙ c.draw-ticket.ensures.same.0)), c.take_board.ensures.same.1 ∙ (c.read.ensures.same.1 ∙ (i.1 ∙ c.draw-ticket.ensures.same.1)));
      entered = (d.0, o.0);
      board = o.1;
    }
