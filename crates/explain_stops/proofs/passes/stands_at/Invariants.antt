-- The last of the channel's steps so far.
use Rattle.std.proofs.Common.{◌≡◌, take, None, false, unwrap_or}
use Rattle.std.specs.List.{filter_map, last_or}
use Rattle.explain_stops.specs.Passes.{raised_in}
use Rattle.explain_stops.proofs.passes.stands_at.Given as goal

abbrev pub invariant-loop-place : goal.invariant-loop-place
invariant-loop-place l = l.stands ≡ unwrap_or (last_or None (filter_map (raised_in l.channel l.mark) (take l.place l.run.entries))) false
