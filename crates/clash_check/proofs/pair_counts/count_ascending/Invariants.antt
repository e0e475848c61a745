use Rattle.std.proofs.Common.{drop}
use Rattle.std.specs.List.{sum_by}
use Rattle.zone_stretches.specs.Ascents.{IsWalk}
use Rattle.clash_check.specs.PairCounts.{count_against}
use Rattle.clash_check.specs.Running.{IsSum, IsLatest}
use Rattle.order_clocks.specs.Tells.{is_before_in}
use Rattle.clash_check.proofs.TimeLaws.{IsCounted}
use Rattle.clash_check.proofs.pair_counts.count_ascending.Given as goal

abbrev pub invariant-loop-left : goal.invariant-loop-left
invariant-loop-left l =
    IsCounted l.count (sum_by (count_against (is_before_in l.clocks.rows) l.others) (drop l.left-index l.own)) (sum_by (count_against (is_before_in l.clocks.rows) l.others) l.own)
    × IsSum l.others l.before.place l.before.boxes × IsSum l.others l.upto.place l.upto.boxes × IsLatest l.others l.upto.place l.latest
    × IsWalk (is_before_in l.clocks.rows) l.own l.others l.left-index l.walk
