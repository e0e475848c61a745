use Rattle.std.proofs.Common.{◌∙◌, Bool, [], ◌++◌, if◌then◌else◌, ap}
use Rattle.explain_stops.specs.MarkTables.{mark_table, table_text}
use Rattle.explain_stops.proofs.mark_tables.say_table_of.Goals as goal

pub returns : goal.returns
unfolding mark_table
returns c b shown =
    c.say_table_if.ensures
    ∙ ap (λ (awaited : Bool). c.args.text.now ++ (if awaited then table_text c.args.told.now.lines.now c.args.told.now.job.now c.args.told.now.run.now c.args.mark else []))
    (c.is_awaited-awaited.ensures b shown)
