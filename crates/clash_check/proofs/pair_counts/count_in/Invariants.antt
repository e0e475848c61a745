use Rattle.std.proofs.Common.{All}
use Rattle.std.specs.List.{sum_by}
use Rattle.order_clocks.specs.Tells.{is_before_in}
use Rattle.clash_check.proofs.TimeLaws.{IsCounted}
use Rattle.clash_check.specs.PairCounts.{count_with}
use Rattle.zone_stretches.specs.TimedZones.{AreTimed, each_two}
use Rattle.clash_check.proofs.pair_counts.count_in.Given as goal

abbrev pub invariant-loop-pair : goal.invariant-loop-pair
invariant-loop-pair l =
    All (AreTimed (is_before_in l.clocks.rows)) l.pair-iterator
    × IsCounted l.count (sum_by (count_with (is_before_in l.clocks.rows)) l.pair-iterator) (sum_by (count_with (is_before_in l.clocks.rows)) (each_two l.fn.zones))
