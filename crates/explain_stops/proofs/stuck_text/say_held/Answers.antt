use Rattle.explain_stops.proofs.TextLaws.{then_said}
use Rattle.explain_stops.proofs.stuck_text.say_held.Goals as goal

pub returns : goal.returns
returns c b shown = then_said _ _ _ _ _ c.say_head.ensures (c.say_hold.ensures b shown)
