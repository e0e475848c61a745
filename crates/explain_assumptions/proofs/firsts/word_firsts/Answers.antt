use Rattle.std.proofs.Common.{◌≡◌, length, arith}
use Rattle.explain_assumptions.proofs.FirstLaws.{all_of, one_more}
use Rattle.explain_assumptions.specs.Firsts.{word_of}
use Rattle.explain_assumptions.proofs.firsts.word_firsts.Goals as goal

pub loop-remark-init : goal.loop-remark-init
loop-remark-init c = c.in_ok-table.ensures word_of

pub loop-remark-preserved : goal.loop-remark-preserved
loop-remark-preserved c =
    one_more word_of c.args.remarks.now c.loop-remark.remark-index _ c.loop-remark.table.items c.put_first.new.table.items c.word.result c.loop-remark-test.true c.loop-remark.invariant c.word.ensures
    c.put_first.ensures

pub returns : goal.returns
returns c =
    let all : c.loop-remark.remark-index ≡ length c.args.remarks.now = omega arith in
    all_of word_of c.args.remarks.now c.loop-remark.remark-index c.loop-remark.table.items all c.loop-remark.invariant
