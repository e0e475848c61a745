-- So many are in the entries so far.
use Rattle.std.proofs.Common.{◌≡◌}
use Rattle.explain_places.specs.Executions.{capped, motions_before}
use Rattle.explain_places.proofs.executions.count_before.Given as goal

abbrev pub invariant-loop-place : goal.invariant-loop-place
invariant-loop-place l = l.count ≡ capped (motions_before l.run l.channel l.line l.place)
