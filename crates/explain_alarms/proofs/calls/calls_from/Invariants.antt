-- The calls so far.
use Rattle.std.proofs.Common.{◌≡◌, map, take}
use Rattle.explain_alarms.specs.Calls.{call_at}
use Rattle.explain_alarms.proofs.calls.calls_from.Given as goal

abbrev pub invariant-loop-place : goal.invariant-loop-place
invariant-loop-place l = l.calls.items ≡ map (call_at l.job.programs) (take l.place-index l.places)
