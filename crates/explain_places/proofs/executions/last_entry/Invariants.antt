-- None from this place on is of the channel.
use Rattle.std.proofs.Common.{◌≡◌, ℕ, ◌<◌, ◌≤◌, ◌+◌, length, slice_index_or}
use Rattle.sync_types.specs.Views.{EntryView}
use Rattle.explain_places.proofs.executions.last_entry.Given as goal

abbrev pub invariant-loop-place : goal.invariant-loop-place
invariant-loop-place l = record {
  within : l.place ≤ length l.entries;
  upto : l.place ≤ l.upto + 1;
  none : (k : ℕ) (e : EntryView) → l.place ≤ k → k < length l.entries → k ≤ l.upto → (slice_index_or l.entries k e).channel ≡ l.channel → ⊥;
}

abbrev pub decreases-loop-place : goal.decreases-loop-place
decreases-loop-place l = l.place
