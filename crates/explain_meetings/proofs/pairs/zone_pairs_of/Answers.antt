use Rattle.std.proofs.Common.{◌∙◌, List, map, sym, ap, subst}
use Rattle.explain_meetings.proofs.CoverLaws.{told_in_cover}
use Rattle.explain_meetings.proofs.PairLaws.{all_ready, told_by_times}
use Rattle.explain_meetings.specs.ZonePairs.{two_of, zone_pairs_of}
use Rattle.order_clocks.specs.Tells.{is_before_in}
use Rattle.zone_stretches.proofs.StretchPairLaws.{all_boxes_are}
use Rattle.zone_stretches.specs.InCovers.{ArePairsInCover}
use Rattle.zone_stretches.specs.Overlaps.{Order, Pair, ZoneTime}
use Rattle.zone_stretches.specs.TimedZones.{each_two}
use Rattle.explain_meetings.proofs.pairs.zone_pairs_of.Goals as goal

pub each_two_of-requires-clause-ready : goal.each_two_of-requires-clause-ready
each_two_of-requires-clause-ready c =
    let before : Order = is_before_in c.args.clocks.now.rows in
    all_ready before c.args.job.now c.args.run.now (each_two c.of-zones.result) c.of-zones.ensures.timed
    (subst (λ (ps : List Pair). ArePairsInCover c.args.job.now c.args.run.now ps) (sym (all_boxes_are before c.args.job.now c.args.stretches.now c.of-zones.result c.of-zones.ensures.times))
    (told_in_cover c.args.job.now c.args.run.now c.args.stretches.now c.args.clocks.now before c.requires.whole c.requires.fit))

pub returns : goal.returns
unfolding zone_pairs_of
returns c =
    let before : Order = is_before_in c.args.clocks.now.rows in
    c.in_ok-pairs.ensures ∙ told_by_times before c.args.job.now c.args.run.now c.of-zones.result
    ∙ ap (λ (times : List ZoneTime). map (two_of before c.args.job.now c.args.run.now) (each_two times)) c.of-zones.ensures.times
