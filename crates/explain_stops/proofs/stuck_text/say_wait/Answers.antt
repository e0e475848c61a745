use Rattle.std.proofs.Common.{sym}
use Rattle.std.proofs.lemmas.List.{append-nil}
use Rattle.explain_stops.specs.Waits.{wait_text}
use Rattle.explain_stops.proofs.stuck_text.say_wait.Goals as goal

pub returns-in-Some : goal.returns-in-Some
unfolding wait_text
returns-in-Some c b shown = rw c.in-Some.is (c.say_held.ensures b shown)

pub returns-in-None : goal.returns-in-None
unfolding wait_text
returns-in-None c b shown = rw c.in-None.is (sym (append-nil c.args.text.now))
