-- The named axes so far have the new owner, and all others have theirs.
use Rattle.std.proofs.Common.{◌≡◌, ℕ, ◌<◌, ◌≤◌, None, if◌then◌else◌, length, slice_index_or}
use Rattle.axis_sets.specs.Sets.{has}
use Rattle.axis_sets.specs.declared.limits.TheConstants.{AXIS_LIMIT}
use Rattle.explain_ends.proofs.owners.give.Given as goal

abbrev pub invariant-loop-index : goal.invariant-loop-index
invariant-loop-index l = record {
  size : length l.owners ≡ AXIS_LIMIT;
  below : (x : ℕ) → x < l.index → slice_index_or l.owners x None ≡ (if has l.axes x then l.owner else slice_index_or l.initial.owners x None);
  above : (x : ℕ) → l.index ≤ x → slice_index_or l.owners x None ≡ slice_index_or l.initial.owners x None;
}
