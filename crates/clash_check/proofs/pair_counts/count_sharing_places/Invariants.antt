use Rattle.std.proofs.Common.{drop}
use Rattle.std.specs.List.{count_by, sum_by}
use Rattle.zone_stretches.specs.Overlaps.{share_place}
use Rattle.clash_check.proofs.TimeLaws.{IsCounted}
use Rattle.clash_check.proofs.pair_counts.count_sharing_places.Given as goal

abbrev pub invariant-loop-own : goal.invariant-loop-own
invariant-loop-own l =
    IsCounted l.count (sum_by (λ own. count_by (share_place own) l.right) (drop l.own-index l.left)) (sum_by (λ own. count_by (share_place own) l.right) l.left)
