use Rattle.axis_sets.specs.declared.limits.TheConstants.{ZONE_LIMIT}
use Rattle.std.proofs.Common.{refl}
use Rattle.order_clocks.specs.Tells.{is_before_in}
use Rattle.zone_stretches.proofs.WalkLaws.{none_marked}
use Rattle.zone_stretches.specs.Times.{lists_in}
use Rattle.zone_stretches.proofs.ascents.ascents_of.Goals as goal

pub loop-place-init : goal.loop-place-init
loop-place-init c = (refl, none_marked (is_before_in c.args.clocks.now.rows) (lists_in c.args.lists.now) _ ZONE_LIMIT refl)
