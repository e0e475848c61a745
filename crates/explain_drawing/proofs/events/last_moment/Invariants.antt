use Rattle.std.proofs.Common.{◌≡◌, take, None}
use Rattle.std.specs.List.{fold}
use Rattle.explain_drawing.specs.Times.{later_moment}
use Rattle.explain_drawing.proofs.events.last_moment.Given as goal

abbrev pub invariant-loop-moment : goal.invariant-loop-moment
invariant-loop-moment l = l.last ≡ fold (later_moment l.channel) None (take l.moment-index l.moments)
