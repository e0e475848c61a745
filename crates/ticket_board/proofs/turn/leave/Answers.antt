use Rattle.atomic_table.specs.Table.{rest}
use Rattle.coord_core.specs.Histories.{history_of}
use Rattle.std.proofs.Common.{ap, map, refl, sym, ◌≡◌, ◌∙◌}
use Rattle.ticket_board.specs.Steps.{Mine, with_count}
use Rattle.ticket_board.specs.Turns.{part_of}
use Rattle.ticket_board.specs.declared.rule.Stage.TheVariants.{Idle}
use Rattle.ticket_board.specs.declared.rule.View.{View}
use Rattle.ticket_board.proofs.turn.leave.Goals as goal

pub count-requires : goal.count-requires
count-requires c = record { table = c.requires.table; after = refl; holds = c.requires.holds; goes = (part_of c.args.seat.now.me.0, c.requires.slot.1, c.requires.board.1, c.requires.board.2) }

pub put_back-requires : goal.put_back-requires
put_back-requires c = record { table = c.count.ensures.same.0 ∙ c.requires.table.0; holds = ap (λ (m : Mine). m.1) c.count.ensures.counted ∙ c.requires.slot.0 }

pub serve-requires : goal.serve-requires
serve-requires c = let h = history_of c.args.held in
    let e : c.put_back.new.seat.me.0 ≡ record { start = c.args.seat.now.me.0.start; parts = map (with_count h) c.args.seat.now.me.0.parts; stage = c.args.seat.now.me.0.stage } = ap (λ (m : Mine). m.0) c.put_back.ensures.put ∙ ap (λ (m : Mine). m.0) c.count.ensures.counted in record {
      table = (c.put_back.ensures.same.0 ∙ (c.count.ensures.same.0 ∙ c.requires.table.0), c.requires.table.1);
      holds = (
        c.requires.holds.0,
        c.args.held,
        with_count h (part_of c.args.seat.now.me.0),
        ap (λ (v : View). v.stage) e ∙ c.requires.holds.1,
        ap (λ (v : View). v.parts) e ∙ ap (map (with_count h)) c.requires.slot.1,
        ap (λ (m : Mine). m.1) c.put_back.ensures.put,
        c.requires.board.0 ∙ sym (ap (λ (v : View). v.start) e),
        refl,
      );
    }

pub returns : goal.returns
returns c = let h = history_of c.args.held in
    let e : c.put_back.new.seat.me.0 ≡ record { start = c.args.seat.now.me.0.start; parts = map (with_count h) c.args.seat.now.me.0.parts; stage = c.args.seat.now.me.0.stage } = ap (λ (m : Mine). m.0) c.put_back.ensures.put ∙ ap (λ (m : Mine). m.0) c.count.ensures.counted in record {
      same = (c.serve.ensures.same.0 ∙ (c.put_back.ensures.same.0 ∙ c.count.ensures.same.0), c.serve.ensures.same.1 ∙ (c.put_back.ensures.same.1 ∙ c.count.ensures.same.1));
      left = c.serve.ensures.served ∙ (λ i. (record { start = (ap (λ (v : View). v.start) e) i; parts = (ap (λ (v : View). v.parts) e ∙ ap (map (with_count h)) c.requires.slot.1) i; stage = Idle }, rest ((ap (λ (m : Mine). m.1) c.put_back.ensures.put) i)));
    }
