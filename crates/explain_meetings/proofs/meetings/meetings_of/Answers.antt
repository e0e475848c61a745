use Rattle.std.proofs.Common.{◌≡◌, ◌∙◌, List, sym, ap, subst, map, filter}
use Rattle.std.specs.List.{flat_map}
use Rattle.order_clocks.specs.Tells.{is_before_in}
use Rattle.zone_stretches.proofs.StretchPairLaws.{all_boxes_are}
use Rattle.zone_stretches.specs.Cases.{Case}
use Rattle.zone_stretches.specs.InCovers.{ArePairsInCover}
use Rattle.zone_stretches.specs.Overlaps.{Pair, compared_pairs}
use Rattle.zone_stretches.specs.Pieces.{pair_meets}
use Rattle.zone_stretches.specs.StretchPairs.{boxes_with}
use Rattle.zone_stretches.specs.TimedZones.{each_two}
use Rattle.explain_meetings.proofs.CoverLaws.{told_in_cover}
use Rattle.explain_meetings.proofs.KeptLaws.{all_met}
use Rattle.explain_meetings.specs.Meetings.{meetings_of, told_pair}
use Rattle.explain_meetings.proofs.meetings.meetings_of.Goals as goal

pub returns : goal.returns
unfolding meetings_of
returns c =
    let case : Case = record { job = c.args.job.now; run = c.args.run.now; before = is_before_in c.args.clocks.now.rows } in
    let all : flat_map (boxes_with case.before) (each_two c.of-zones.result) ≡ compared_pairs case.before c.args.job.now c.args.stretches.now =
    all_boxes_are case.before c.args.job.now c.args.stretches.now c.of-zones.result c.of-zones.ensures.times in
    c.in_ok-list.ensures
    ∙ sym (all_met case (each_two c.of-zones.result) (subst (λ (ps : List Pair). ArePairsInCover c.args.job.now c.args.run.now ps) (sym all)
    (told_in_cover c.args.job.now c.args.run.now c.args.stretches.now c.args.clocks.now case.before c.requires.whole c.requires.fit)))
    ∙ ap (λ (pairs : List Pair). map told_pair (filter (pair_meets case.job case.run) pairs)) all
