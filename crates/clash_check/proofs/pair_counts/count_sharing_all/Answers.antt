use Rattle.std.proofs.Common.{ℕ, arith}
use Rattle.std.specs.List.{count_by, sum_by}
use Rattle.std.proofs.lemmas.List.Sums.{sum_by-drop_more}
use Rattle.clash_check.proofs.TimeLaws.{counted_more, counted_all, sum_past}
use Rattle.clash_check.specs.PairCounts.{count_sharing}
use Rattle.zone_stretches.specs.Overlaps.{share_place}
use Rattle.zone_stretches.specs.declared.stretches.ZoneBox.{ZoneBox}
use Rattle.clash_check.proofs.pair_counts.count_sharing_all.Goals as goal

pub loop-own-preserved : goal.loop-own-preserved
loop-own-preserved c =
    let near : ZoneBox → ℕ = λ own. count_by (share_place own) c.args.right.now in
    counted_more c.loop-own.count c.saturating_add-count.result _ c.count_near.result _ _ (sum_by near c.args.left.now) c.count_near.ensures c.saturating_add-count.ensures
    (sum_by-drop_more near c.args.left.now c.loop-own.own-index _ (omega arith)) c.loop-own.invariant

pub returns : goal.returns
unfolding count_sharing
returns c = counted_all c.loop-own.count _ _ (sum_past (λ (own : ZoneBox). count_by (share_place own) c.args.right.now) c.args.left.now c.loop-own.own-index (omega arith)) c.loop-own.invariant
