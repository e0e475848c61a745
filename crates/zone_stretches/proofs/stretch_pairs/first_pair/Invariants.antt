-- None of those that have been may overlap one of the other zone.
use Rattle.std.proofs.Common.{◌≡◌}
use Rattle.order_clocks.specs.Tells.{is_before_in}
use Rattle.zone_stretches.specs.StretchPairs.{pairs_from}
use Rattle.zone_stretches.proofs.stretch_pairs.first_pair.Given as goal

abbrev pub invariant-loop-place : goal.invariant-loop-place
invariant-loop-place l =
    pairs_from (is_before_in l.clocks.rows) l.left.time l.right.time l.place ≡ pairs_from (is_before_in l.clocks.rows) l.left.time l.right.time l.initial.place
