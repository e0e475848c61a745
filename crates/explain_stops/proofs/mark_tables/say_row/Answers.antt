use Rattle.explain_stops.proofs.TextLaws.{three_said}
use Rattle.explain_stops.specs.MarkTables.{row_text}
use Rattle.explain_stops.proofs.mark_tables.say_row.Goals as goal

pub returns : goal.returns
unfolding row_text
returns c = three_said _ _ _ _ _ _ _ c.say_passes.ensures c.say_first_block.ensures c.say.ensures
