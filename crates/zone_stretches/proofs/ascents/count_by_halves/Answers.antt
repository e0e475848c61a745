use Rattle.std.proofs.Common.{rules, of_calls, Bool}
use Rattle.std.proofs.lemmas.Fn.{always_returns_same}
use Rattle.order_clocks.specs.Tells.{is_before_in}
use Rattle.zone_stretches.proofs.ChainLaws.{leading_is, are_parted}
use Rattle.zone_stretches.specs.Ascents.{passes}
use Rattle.zone_stretches.specs.Stretches.{StretchView}
use Rattle.zone_stretches.proofs.ascents.count_by_halves.Goals as goal

pub returns : goal.returns
returns c =
    let test : StretchView → Bool = passes (is_before_in c.args.clocks.now.rows) c.args.ended c.args.own.now in
    leading_is test c.args.others.now c.partition_point.result c.partition_point.ensures.bound
    (c.partition_point.ensures.partitioned test (always_returns_same _ _ _ (λ a r f k. search (rules, of_calls))) (are_parted test c.args.others.now c.requires))
