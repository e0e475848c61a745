use Rattle.std.proofs.Common.{◌∙◌, List, ◌++◌, ap}
use Rattle.explain_stops.specs.Rows.{mark_rows}
use Rattle.explain_stops.specs.Stuck.{last_board}
use Rattle.explain_stops.specs.declared.passes.MarkRow.{MarkRow}
use Rattle.explain_stops.proofs.rows.mark_rows.Goals as goal

pub returns : goal.returns
unfolding mark_rows
returns c =
    c.in_ok-push_all_marks.ensures (last_board c.args.start.now c.args.told.now.run.now) c.last_board-board.ensures
    ∙ ap (λ (xs : List MarkRow). xs ++ mark_rows c.args.told.now.job.now c.args.told.now.run.now (last_board c.args.start.now c.args.told.now.run.now)) c.new-list.ensures.items
