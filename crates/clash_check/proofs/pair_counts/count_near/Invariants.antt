use Rattle.std.proofs.Common.{◌≡◌, ◌+◌, drop}
use Rattle.std.specs.List.{count_by}
use Rattle.clash_check.specs.PairCounts.{capped}
use Rattle.zone_stretches.specs.Overlaps.{share_place}
use Rattle.clash_check.proofs.pair_counts.count_near.Given as goal

abbrev pub invariant-loop-later : goal.invariant-loop-later
invariant-loop-later l = capped (l.count + count_by (share_place l.own) (drop l.later-index l.others)) ≡ capped (count_by (share_place l.own) l.others)
