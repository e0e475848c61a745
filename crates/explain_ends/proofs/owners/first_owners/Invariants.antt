-- The axes so far have their owners.
use Rattle.std.proofs.Common.{◌≡◌, ℕ, ◌<◌, None, length, slice_index_or}
use Rattle.axis_sets.specs.declared.limits.TheConstants.{AXIS_LIMIT}
use Rattle.sync_types.specs.Starts.{first_owner}
use Rattle.explain_ends.proofs.owners.first_owners.Given as goal

abbrev pub invariant-loop-index : goal.invariant-loop-index
invariant-loop-index l = record {
  size : length l.owners ≡ AXIS_LIMIT;
  below : (x : ℕ) → x < l.index → slice_index_or l.owners x None ≡ first_owner l.start x;
}
