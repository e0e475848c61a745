use Rattle.explain_stops.proofs.TextLaws.{then_said}
use Rattle.explain_stops.specs.Stuck.{waits_text}
use Rattle.explain_stops.proofs.stuck_text.say_board.Goals as goal

pub returns : goal.returns
unfolding waits_text
returns c b shown = then_said _ _ _ _ _ (c.say_channels.ensures b shown) (c.say_marks.ensures b shown)
