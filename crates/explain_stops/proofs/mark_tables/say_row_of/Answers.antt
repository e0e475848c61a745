use Rattle.std.proofs.Common.{◌∙◌, ◌++◌, Option, ap}
use Rattle.explain_stops.specs.MarkTables.{some_row_text}
use Rattle.explain_stops.specs.declared.passes.MarkRow.{MarkRow}
use Rattle.explain_stops.proofs.mark_tables.say_row_of.Goals as goal

pub returns : goal.returns
returns c =
    c.say_some_row.ensures
    ∙ ap (λ (row : Option MarkRow). c.args.text.now ++ some_row_text c.args.told.now.lines.now c.args.told.now.job.now row) c.row_in-row.ensures
