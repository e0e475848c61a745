use Rattle.explain_stops.proofs.TextLaws.{five_said}
use Rattle.explain_stops.specs.MarkTables.{pass_text}
use Rattle.explain_stops.proofs.mark_tables.say_passes.Goals as goal

pub returns : goal.returns
unfolding pass_text
returns c = five_said _ _ _ _ _ _ _ _ _ _ _ c.say.ensures c.say_channel.ensures c.say-2.ensures c.say_times.ensures c.say_stands.ensures
