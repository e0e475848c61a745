use Rattle.std.proofs.Common.{◌≡◌, length}
use Rattle.axis_sets.specs.declared.limits.TheConstants.{ZONE_LIMIT}
use Rattle.order_clocks.specs.Tells.{is_before_in}
use Rattle.zone_stretches.specs.Ascents as model
use Rattle.zone_stretches.specs.Times.{lists_in}
use Rattle.zone_stretches.proofs.ascents.ascents_of.Given as goal

abbrev pub invariant-loop-place : goal.invariant-loop-place
invariant-loop-place l = (length l.ascents ≡ ZONE_LIMIT) × model.AreAscents (is_before_in l.clocks.rows) (lists_in l.lists) l.ascents
