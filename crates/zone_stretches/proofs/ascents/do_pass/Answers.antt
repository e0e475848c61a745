use Rattle.std.proofs.Common.{◌∙◌, ◌-◌, sym, ap, arith}
use Rattle.order_clocks.specs.Tells.{is_before_in}
use Rattle.zone_stretches.proofs.ChainLaws.{leading_at, leading_over}
use Rattle.zone_stretches.specs.Ascents.{passes}
use Rattle.zone_stretches.proofs.ascents.do_pass.Goals as goal

pub returns-then-others-count : goal.returns-then-others-count
returns-then-others-count c = sym (leading_over (passes (is_before_in c.args.clocks.now.rows) c.args.ended c.args.own.now) c.args.others.now c.args.count c.if-others-count.true)

pub returns : goal.returns
returns c =
    let some = c.if-count-eq0.false in
    let few = c.if-others-count.false in
    c.passes.ensures
    ∙ ap (passes (is_before_in c.args.clocks.now.rows) c.args.ended c.args.own.now) c.index-others-count.is
    ∙ leading_at (passes (is_before_in c.args.clocks.now.rows) c.args.ended c.args.own.now) c.args.others.now (c.args.count - 1) c.args.count c.index-others-count.result c.requires (omega (arith, some, few)) (omega (arith, some))
