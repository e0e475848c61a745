use Rattle.std.proofs.Common.{ℕ, get_or, arith}
use Rattle.std.specs.List.{count_by, sum_by}
use Rattle.std.proofs.lemmas.List.Sums.{sum_by-drop_more}
use Rattle.clash_check.proofs.PlaceLaws.{no_box, passing_places, counted_places}
use Rattle.clash_check.proofs.TimeLaws.{counted_more, counted_all, sum_past}
use Rattle.clash_check.specs.PairCounts.{count_sharing}
use Rattle.zone_stretches.specs.Overlaps.{share_place}
use Rattle.zone_stretches.specs.declared.stretches.ZoneBox.{ZoneBox}
use Rattle.clash_check.proofs.pair_counts.count_sharing_places.Goals as goal

pub place_range-range-requires : goal.place_range-range-requires
place_range-range-requires c = passing_places (get_or c.args.left.now c.loop-own.own-index no_box) c.args.right.now c.requires

pub loop-own-preserved : goal.loop-own-preserved
loop-own-preserved c =
    let near : ZoneBox → ℕ = λ own. count_by (share_place own) c.args.right.now in
    counted_more c.loop-own.count c.saturating_add-count.result _ c.saturating_sub.result _ _ (sum_by near c.args.left.now)
    (counted_places (get_or c.args.left.now c.loop-own.own-index no_box) c.args.right.now c.place_range-range.result.from c.place_range-range.result.upto c.saturating_sub.result
    (passing_places (get_or c.args.left.now c.loop-own.own-index no_box) c.args.right.now c.requires) c.place_range-range.ensures.from c.place_range-range.ensures.upto c.saturating_sub.ensures
    c.saturating_sub.type_inv) c.saturating_add-count.ensures
    (sum_by-drop_more near c.args.left.now c.loop-own.own-index no_box (omega arith)) c.loop-own.invariant

pub returns : goal.returns
unfolding count_sharing
returns c = counted_all c.loop-own.count _ _ (sum_past (λ (own : ZoneBox). count_by (share_place own) c.args.right.now) c.args.left.now c.loop-own.own-index (omega arith)) c.loop-own.invariant
