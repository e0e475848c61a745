use Rattle.std.proofs.Common.{false, arith}
use Rattle.order_clocks.specs.Tells.{is_before_in}
use Rattle.zone_stretches.proofs.ChainLaws.{leading_within}
use Rattle.zone_stretches.specs.Ascents.{passes}
use Rattle.zone_stretches.proofs.ascents.range_near.Goals as goal

pub returns-clause-within : goal.returns-clause-within
returns-clause-within c =
    let is = c.count_near-2.ensures in
    let within = leading_within (passes (is_before_in c.args.clocks.now.rows) false c.args.own.now) c.args.others.now in
    omega (arith, is, within)
