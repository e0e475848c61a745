use Rattle.std.proofs.Common.{ℕ, arith}
use Rattle.std.specs.List.{count_by}
use Rattle.explain_meetings.proofs.CountLaws.{counted_at, counted_all}
use Rattle.explain_meetings.specs.CountSteps.{count_sharing}
use Rattle.zone_stretches.specs.Overlaps.{share_place}
use Rattle.zone_stretches.specs.declared.stretches.ZoneBox.{ZoneBox}
use Rattle.explain_meetings.proofs.counts.count_sharing.Goals as goal

pub loop-own-preserved : goal.loop-own-preserved
loop-own-preserved c =
    let found : ZoneBox → ℕ = λ own. count_by (share_place own) c.args.laters.now in
    counted_at found c.args.owns.now c.loop-own.own-index _ c.loop-own.count c.count_near.result c.saturating_add-count.result c.loop-own-test.true c.count_near.ensures c.saturating_add-count.ensures c.loop-own.invariant

pub returns : goal.returns
unfolding count_sharing
returns c =
    let found : ZoneBox → ℕ = λ own. count_by (share_place own) c.args.laters.now in
    counted_all found c.args.owns.now c.loop-own.own-index c.loop-own.count (omega arith) c.loop-own.invariant
