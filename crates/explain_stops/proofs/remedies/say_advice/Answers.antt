use Rattle.explain_stops.proofs.TextLaws.{three_said}
use Rattle.explain_stops.specs.Remedies.{advice_text}
use Rattle.explain_stops.proofs.remedies.say_advice.Goals as goal

pub returns : goal.returns
unfolding advice_text
returns c = three_said _ _ _ _ _ _ _ c.say.ensures c.say-2.ensures c.say-3.ensures
