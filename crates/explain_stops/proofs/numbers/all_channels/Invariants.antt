use Rattle.axis_sets.specs.declared.limits.TheConstants.{CHANNEL_LIMIT}
use Rattle.std.proofs.Common.{◌≡◌, ℕ, length}
use Rattle.explain_stops.proofs.CountedLaws.{CountsFrom}
use Rattle.explain_stops.proofs.numbers.all_channels.Given as goal

abbrev pub invariant-loop-index : goal.invariant-loop-index
invariant-loop-index l = record {
  size : length l.all ≡ CHANNEL_LIMIT;
  filled : CountsFrom 1 l.index l.all;
}
