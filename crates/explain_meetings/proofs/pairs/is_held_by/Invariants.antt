-- The channel holds the zone in all those that have been.
use Rattle.std.proofs.Common.{◌≡◌, drop}
use Rattle.explain_meetings.specs.ZonePairs as model
use Rattle.explain_meetings.proofs.pairs.is_held_by.Given as goal

abbrev pub invariant-loop-stretch : goal.invariant-loop-stretch
invariant-loop-stretch l = model.is_held_by l.channel (drop l.stretch-index l.stretches) ≡ model.is_held_by l.channel l.stretches
