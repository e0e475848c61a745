use Rattle.std.proofs.Common.{◌≡◌, length, arith}
use Rattle.explain_assumptions.proofs.FirstLaws.{all_of, one_more}
use Rattle.explain_assumptions.specs.Firsts.{parameter_of}
use Rattle.explain_assumptions.proofs.firsts.parameter_firsts.Goals as goal

pub loop-remark-init : goal.loop-remark-init
loop-remark-init c = c.in_ok-table.ensures parameter_of

pub loop-remark-preserved : goal.loop-remark-preserved
loop-remark-preserved c =
    one_more parameter_of c.args.remarks.now c.loop-remark.remark-index _ c.loop-remark.table.items c.put_first.new.table.items c.parameter.result c.loop-remark-test.true c.loop-remark.invariant c.parameter.ensures
    c.put_first.ensures

pub returns : goal.returns
returns c =
    let all : c.loop-remark.remark-index ≡ length c.args.remarks.now = omega arith in
    all_of parameter_of c.args.remarks.now c.loop-remark.remark-index c.loop-remark.table.items all c.loop-remark.invariant
