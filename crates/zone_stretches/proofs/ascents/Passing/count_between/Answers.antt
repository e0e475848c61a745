use Rattle.order_clocks.specs.Tells.{is_before_in}
use Rattle.zone_stretches.proofs.ChainLaws.{leading_on}
use Rattle.zone_stretches.specs.Ascents.{passes}
use Rattle.zone_stretches.proofs.ascents.Passing.count_between.Goals as goal

pub loop-place-init : goal.loop-place-init
loop-place-init c = leading_on (passes (is_before_in c.args.self.now.clocks.now.rows) c.args.self.now.ended c.args.self.now.own.now) c.args.others.now c.args.low c.requires.low
