use Rattle.explain_stops.proofs.TextLaws.{three_said}
use Rattle.explain_stops.specs.Waits.{axis_wait_text}
use Rattle.explain_stops.proofs.waits.say_asked_axis.Goals as goal

pub returns : goal.returns
unfolding axis_wait_text
returns c = three_said _ _ _ _ _ _ _ c.say.ensures c.say_axis.ensures c.say_owned_axis.ensures
