use Rattle.explain_drawing.specs.Times.{dot_text}
use Rattle.explain_views.proofs.PieceLaws.{four}
use Rattle.explain_drawing.proofs.times.Lanes.put_dot.Goals as goal

pub returns : goal.returns
unfolding dot_text
returns c = four _ _ _ _ _ _ _ _ _ c.say.ensures c.say-2.ensures c.say-3.ensures c.put_disc.ensures
