use Rattle.std.proofs.Common.{◌∙◌, ◌++◌, ap}
use Rattle.std.specs.Fmt.{decimal}
use Rattle.explain_stops.proofs.TextLaws.{four_said}
use Rattle.explain_stops.specs.MarkTables.{table_text}
use Rattle.explain_stops.proofs.mark_tables.say_table.Goals as goal

pub returns : goal.returns
unfolding table_text
returns c =
    four_said _ _ _ _ _ _ _ _ _ c.say.ensures (c.number.ensures ∙ ap (λ n. c.say.new.self ++ decimal n) c.from.ensures) c.say-2.ensures c.say_rows.ensures
