use Rattle.explain_stops.proofs.TextLaws.{four_said}
use Rattle.explain_stops.specs.Waits.{end_text}
use Rattle.explain_stops.proofs.waits.say_program_end.Goals as goal

pub returns : goal.returns
unfolding end_text
returns c = four_said _ _ _ _ _ _ _ _ _ c.say.ensures c.say_channel.ensures c.say-2.ensures c.say_stop.ensures
