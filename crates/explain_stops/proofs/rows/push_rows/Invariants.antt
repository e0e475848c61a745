-- Rows of those so far.
use Rattle.std.proofs.Common.{◌≡◌, ◌++◌, map, take}
use Rattle.explain_stops.specs.Rows.{wait_row}
use Rattle.explain_stops.proofs.rows.push_rows.Given as goal

abbrev pub invariant-loop-lack : goal.invariant-loop-lack
invariant-loop-lack l = l.list.items ≡ l.initial.list.items ++ map (wait_row l.told.job.now l.told.run.now l.channel l.line) (take l.lack-index l.lacks)
