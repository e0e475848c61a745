-- So many of the steps so far.
use Rattle.std.proofs.Common.{◌≡◌, ◌≤◌, take}
use Rattle.std.specs.List.{count_by}
use Rattle.explain_stops.specs.Passes.{is_raising}
use Rattle.explain_stops.proofs.passes.count_raisings.Given as goal

abbrev pub invariant-loop-entry : goal.invariant-loop-entry
invariant-loop-entry l = record { value : l.count ≡ count_by (is_raising l.channel l.mark) (take l.entry-index l.entries); few : l.count ≤ l.entry-index }
