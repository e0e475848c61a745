-- The stops so far, and those to come.
use Rattle.std.proofs.Common.{◌≡◌, ◌≤◌, ◌+◌, ◌++◌, length}
use Rattle.axis_sets.specs.declared.limits.TheConstants.{CHANNEL_PLACES}
use Rattle.stop_verdicts.proofs.StopLaws.{Rest}
use Rattle.job_types.specs.Channels.{has_channel}
use Rattle.stop_verdicts.specs.Stops.{stops_of}
use Rattle.stop_verdicts.proofs.stops.stops_of.Given as goal

abbrev pub invariant-loop-number : goal.invariant-loop-number
invariant-loop-number l = (length l.stops.items + 1 ≤ l.number) × (l.stops.items ++ Rest (has_channel l.job) CHANNEL_PLACES l.run.ends l.number (length l.stops.items) ≡ stops_of l.job l.run)
