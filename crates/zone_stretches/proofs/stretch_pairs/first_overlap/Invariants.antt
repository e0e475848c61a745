-- None of those that have been may overlap it.
use Rattle.std.proofs.Common.{◌≡◌, drop, filter}
use Rattle.order_clocks.specs.Tells.{is_before_in}
use Rattle.zone_stretches.specs.Overlaps.{may_overlap}
use Rattle.zone_stretches.proofs.stretch_pairs.first_overlap.Given as goal

abbrev pub invariant-loop-place : goal.invariant-loop-place
invariant-loop-place l = filter (may_overlap (is_before_in l.clocks.rows) l.own) (drop l.place l.others) ≡ filter (may_overlap (is_before_in l.clocks.rows) l.own) l.others
