use Rattle.std.proofs.Common.{sym, ◌∙◌}
use Rattle.order_clocks.specs.Counters.{rows_after_act, last_rows}
use Rattle.order_clocks.proofs.StepLaws.{opened_room, act_shows, opened_shows}
use Rattle.order_clocks.proofs.times.LastClocks.step.Goals as goal

pub close-requires-clause-room : goal.close-requires-clause-room
close-requires-clause-room c = opened_room c.args.deed.now c.args.self.now c.open-rows.new.self c.open-rows.result c.requires.room c.open-rows.ensures.row c.open-rows.ensures.past c.open-rows.ensures.last

pub returns-clause-shows : goal.returns-clause-shows
returns-clause-shows c = λ run i is shows.
    c.close.ensures.shows run i (rows_after_act run i (last_rows run i)) is
    (opened_shows run i (last_rows run i) c.args.deed.now c.args.self.now c.open-rows.new.self c.open-rows.result is shows
    (act_shows run i (last_rows run i) c.args.deed.now c.args.self.now c.open-rows.result is shows c.open-rows.ensures.row)
    c.open-rows.ensures.past c.open-rows.ensures.last)

pub returns-clause-rows : goal.returns-clause-rows
returns-clause-rows c = λ run i is shows.
    let act = act_shows run i (last_rows run i) c.args.deed.now c.args.self.now c.open-rows.result is shows c.open-rows.ensures.row in
    record {
      act = act;
      goes = λ d x here. c.close.ensures.rows run i (rows_after_act run i (last_rows run i)) is
          (opened_shows run i (last_rows run i) c.args.deed.now c.args.self.now c.open-rows.new.self c.open-rows.result is shows act c.open-rows.ensures.past c.open-rows.ensures.last)
          d x (sym (is.goers d) ∙ here);
    }
