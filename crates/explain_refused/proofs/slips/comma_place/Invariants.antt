-- The place in the words that are left is that in all, and no more are open than there were words.
use Rattle.std.proofs.Common.{◌≡◌, ◌≤◌, ◌+◌, length}
use Rattle.explain_refused.specs.Slips.{comma_place}
use Rattle.explain_refused.proofs.slips.comma_place.Given as goal

abbrev pub invariant-loop-rest : goal.invariant-loop-rest
invariant-loop-rest l = record {
  few : l.depth + length l.rest ≤ length l.fn.words;
  same : comma_place l.depth l.rest ≡ comma_place 0 l.fn.words;
}

abbrev pub decreases-loop-rest : goal.decreases-loop-rest
decreases-loop-rest l = length l.rest
