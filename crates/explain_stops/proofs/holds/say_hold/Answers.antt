use Rattle.explain_stops.specs.Waits.{hold_text}
use Rattle.explain_stops.proofs.holds.say_hold.Goals as goal

pub returns-in-Marks : goal.returns-in-Marks
unfolding hold_text
returns-in-Marks c b shown = rw c.in-Marks.is (c.say_marks.ensures b shown)

pub returns-in-Ends : goal.returns-in-Ends
unfolding hold_text
returns-in-Ends c b shown = rw c.in-Ends.is c.say_ends.ensures

pub returns-in-Axes : goal.returns-in-Axes
unfolding hold_text
returns-in-Axes c b shown = rw c.in-Axes.is (c.say_axes.ensures b shown)
