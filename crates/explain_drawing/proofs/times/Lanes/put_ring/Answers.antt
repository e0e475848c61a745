use Rattle.explain_drawing.specs.Times.{ring_text}
use Rattle.explain_views.proofs.PieceLaws.{two}
use Rattle.explain_drawing.proofs.times.Lanes.put_ring.Goals as goal

pub returns : goal.returns
unfolding ring_text
returns c = two _ _ _ _ _ c.say.ensures c.put_hoop.ensures
