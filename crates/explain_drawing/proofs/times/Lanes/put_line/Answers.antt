use Rattle.explain_drawing.specs.Times.{line_text}
use Rattle.explain_views.proofs.PieceLaws.{two}
use Rattle.explain_drawing.proofs.times.Lanes.put_line.Goals as goal

pub returns : goal.returns
unfolding line_text
returns c = two _ _ _ _ _ c.say.ensures (rw (c.lane_start.ensures, c.lane_end.ensures) at c.put_ends.ensures)
