use Rattle.std.proofs.Common.{false}
use Rattle.order_clocks.specs.Tells.{is_before_in}
use Rattle.zone_stretches.proofs.NearLaws.{near_are}
use Rattle.zone_stretches.proofs.ascents.near_part.Goals as goal

pub returns-then-ascend : goal.returns-then-ascend
returns-then-ascend c =
    near_are (is_before_in c.args.clocks.now.rows) c.args.own.now c.args.others.now c.part.result.now c.range_near-found.result.from c.range_near-found.result.upto
    (c.requires c.if-ascend.true false) c.range_near-found.ensures.from c.range_near-found.ensures.upto c.part.ensures
