-- So many steps were seen.
use Rattle.std.proofs.Common.{◌≤◌, All, take, length}
use Rattle.axis_sets.specs.declared.limits.TheConstants.{CHANNEL_LIMIT}
use Rattle.sync_types.specs.Views.{EntryView}
use Rattle.sync_types.proofs.runs.Run.see_goes.Given as goal

abbrev pub invariant-loop-entry : goal.invariant-loop-entry
invariant-loop-entry l = All (λ (e : EntryView). length e.goes ≤ CHANNEL_LIMIT) (take l.entry-index l.entry-items)
