use Rattle.std.proofs.Common.{◌≡◌}
use Rattle.explain_meetings.proofs.PutLaws.{IsPassed}
use Rattle.explain_meetings.specs.NearSteps.{nearer, same_groups}
use Rattle.explain_meetings.proofs.nearest.put.Given as goal

abbrev pub invariant-loop-place : goal.invariant-loop-place
invariant-loop-place l = (l.rows.items ≡ l.initial.rows.items) × IsPassed same_groups nearer l.initial.rows.items l.near l.place
