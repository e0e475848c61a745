use Rattle.std.proofs.Common.{◌∙◌, List, subst}
use Rattle.order_clocks.specs.Tells.{is_before_in}
use Rattle.clash_check.proofs.NumberLaws.{numbers_are}
use Rattle.clash_check.specs.PairNumbers.{AreByCount}
use Rattle.clash_check.specs.declared.numbers.PairNumber.{PairNumber}
use Rattle.clash_check.proofs.numbers.pair_numbers.Goals as goal

pub returns : goal.returns
returns c =
    subst (λ (rows : List PairNumber). AreByCount rows c.sort_by_count.new.rows.items)
    (c.in_ok-rows.ensures ∙ numbers_are (is_before_in c.args.clocks.now.rows) c.args.job.now c.args.stretches.now c.of-zones.result c.of-zones.ensures.times)
    c.in_ok-sort_by_count.ensures
