use Rattle.std.proofs.Common.{◌≡◌, List, sym, subst}
use Rattle.std.specs.List.{flat_map}
use Rattle.explain_meetings.proofs.CoverLaws.{told_in_cover}
use Rattle.explain_meetings.specs.Nearest.{AreNearest}
use Rattle.order_clocks.specs.Tells.{is_before_in}
use Rattle.zone_stretches.proofs.StretchPairLaws.{all_boxes_are}
use Rattle.zone_stretches.specs.InCovers.{ArePairsInCover}
use Rattle.zone_stretches.specs.Overlaps.{Order, Pair, compared_pairs}
use Rattle.zone_stretches.specs.StretchPairs.{boxes_with}
use Rattle.zone_stretches.specs.TimedZones.{each_two}
use Rattle.explain_meetings.proofs.nearest.nearest_of.Goals as goal

pub returns : goal.returns
returns c =
    let before : Order = is_before_in c.args.clocks.now.rows in
    let all : flat_map (boxes_with before) (each_two c.of-zones.result) ≡ compared_pairs before c.args.job.now c.args.stretches.now =
    all_boxes_are before c.args.job.now c.args.stretches.now c.of-zones.result c.of-zones.ensures.times in
    subst (λ (ps : List Pair). AreNearest c.args.job.now c.args.run.now ps c.in_ok-near.near.items) all
    (c.in_ok-near.ensures (subst (λ (ps : List Pair). ArePairsInCover c.args.job.now c.args.run.now ps) (sym all)
    (told_in_cover c.args.job.now c.args.run.now c.args.stretches.now c.args.clocks.now before c.requires.whole c.requires.fit)))
