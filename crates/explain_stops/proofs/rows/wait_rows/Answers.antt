use Rattle.std.proofs.Common.{◌∙◌, List, ◌++◌, ap}
use Rattle.explain_stops.specs.Rows.{wait_rows}
use Rattle.explain_stops.specs.Stuck.{last_board}
use Rattle.explain_stops.specs.declared.rows.WaitRow.{WaitRow}
use Rattle.explain_stops.proofs.rows.wait_rows.Goals as goal

pub returns : goal.returns
unfolding wait_rows
returns c =
    c.in_ok-push_waits.ensures (last_board c.args.start.now c.args.told.now.run.now) c.last_board-board.ensures
    ∙ ap (λ (xs : List WaitRow). xs ++ wait_rows c.args.told.now.job.now c.args.told.now.run.now (last_board c.args.start.now c.args.told.now.run.now)) c.new-list.ensures.items
