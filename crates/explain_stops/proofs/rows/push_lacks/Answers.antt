use Rattle.explain_stops.specs.Lacks.{lacks_of}
use Rattle.explain_stops.proofs.rows.push_lacks.Goals as goal

pub returns-in_ok-push_marks-in-Marks : goal.returns-in_ok-push_marks-in-Marks
unfolding lacks_of
returns-in_ok-push_marks-in-Marks c b shown = rw c.in-Marks.is (c.in_ok-push_marks-in-Marks.ensures b shown)

pub returns-in_ok-push_ends-in-Ends : goal.returns-in_ok-push_ends-in-Ends
unfolding lacks_of
returns-in_ok-push_ends-in-Ends c b shown = rw c.in-Ends.is c.in_ok-push_ends-in-Ends.ensures

pub returns-in_ok-push_axes-in-Axes : goal.returns-in_ok-push_axes-in-Axes
unfolding lacks_of
returns-in_ok-push_axes-in-Axes c b shown = rw c.in-Axes.is (c.in_ok-push_axes-in-Axes.ensures b shown)
