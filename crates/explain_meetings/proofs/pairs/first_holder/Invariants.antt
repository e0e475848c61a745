-- The first in which the zone is on is among those that are left.
use Rattle.std.proofs.Common.{◌≡◌, drop, find}
use Rattle.explain_meetings.specs.ZonePairs.{is_on}
use Rattle.explain_meetings.proofs.pairs.first_holder.Given as goal

abbrev pub invariant-loop-stretch : goal.invariant-loop-stretch
invariant-loop-stretch l = find is_on (drop l.stretch-index l.stretches) ≡ find is_on l.stretches
