use Rattle.std.proofs.Common.{◌≡◌, ℕ, ◌<◌, length, slice_index}
use Rattle.axis_sets.specs.declared.limits.TheConstants.{CHANNEL_PLACES}
use Rattle.order_clocks.proofs.groups.each_alone.Given as goal

abbrev pub invariant-loop-place : goal.invariant-loop-place
invariant-loop-place l = record {
  size : length l.group ≡ CHANNEL_PLACES;
  own : (k : ℕ) → k < l.place → slice_index l.group k ≡ k;
}
