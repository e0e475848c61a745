use Rattle.std.proofs.Common.{drop}
use Rattle.std.specs.List.{sum_by}
use Rattle.clash_check.specs.PairCounts.{count_against}
use Rattle.order_clocks.specs.Tells.{is_before_in}
use Rattle.clash_check.proofs.TimeLaws.{IsCounted}
use Rattle.clash_check.proofs.pair_counts.count_all.Given as goal

abbrev pub invariant-loop-left : goal.invariant-loop-left
invariant-loop-left l =
    IsCounted l.count (sum_by (count_against (is_before_in l.clocks.rows) l.others) (drop l.left-index l.own)) (sum_by (count_against (is_before_in l.clocks.rows) l.others) l.own)
