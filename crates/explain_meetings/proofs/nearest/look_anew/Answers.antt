use Rattle.std.proofs.Common.{◌≡◌, ◌∙◌, ◌++◌, false, List, sym, ap, subst}
use Rattle.std.specs.List.{flat_map, list_any}
use Rattle.explain_meetings.proofs.NearestLaws.{passed_all}
use Rattle.explain_meetings.specs.NearSteps.{AreNearestSoFar, may_count, pair_where}
use Rattle.explain_meetings.specs.declared.nearest.Near.{Near}
use Rattle.zone_stretches.specs.Cases.{place_of}
use Rattle.zone_stretches.specs.Overlaps.{BoxPlace}
use Rattle.zone_stretches.specs.Stretches.{StretchView}
use Rattle.zone_stretches.specs.declared.stretches.ZoneBox.{ZoneBox}
use Rattle.explain_meetings.proofs.nearest.look_anew.Goals as goal

pub returns-clause-near : goal.returns-clause-near
returns-clause-near c seen are =
    let boxes : c.as_slice-laters.result.now ≡ c.args.two.now.right.now.stretch.now.boxes = c.as_slice-laters.ensures.value ∙ ap (λ (s : StretchView). s.boxes) c.other.view_is in
    subst (λ (laters : List ZoneBox). AreNearestSoFar c.args.two.now.scene.now.job.now c.args.two.now.scene.now.run.now
    (seen ++ flat_map (pair_where (place_of c.args.two.now.left.now.zone.now c.args.two.now.left.now.stretch.now c.args.own.now) c.args.two.now.right.now.zone.now c.args.two.now.right.now.stretch.now) laters) c.look_each.new.rows.items) boxes
    (c.in_ok-look_each.ensures.near seen are)

pub returns-then-not-may_any_count-clause-near : goal.returns-then-not-may_any_count-clause-near
returns-then-not-may_any_count-clause-near c seen so_far =
    let left : BoxPlace = place_of c.args.two.now.left.now.zone.now c.args.two.now.left.now.stretch.now c.args.own.now in
    let boxes : c.as_slice-laters.result.now ≡ c.args.two.now.right.now.stretch.now.boxes = c.as_slice-laters.ensures.value ∙ ap (λ (s : StretchView). s.boxes) c.other.view_is in
    let off : list_any (may_count c.args.rows.now.items left c.args.two.now.right.now.zone.now c.args.two.now.right.now.stretch.now) c.args.two.now.right.now.stretch.now.boxes ≡ false =
    ap (λ (laters : List ZoneBox). list_any (may_count c.args.rows.now.items left c.args.two.now.right.now.zone.now c.args.two.now.right.now.stretch.now) laters) (sym boxes)
    ∙ ap (λ (rows : List Near). list_any (may_count rows left c.args.two.now.right.now.zone.now c.args.two.now.right.now.stretch.now) c.as_slice-laters.result.now) (sym c.as_slice.ensures.value)
    ∙ sym c.may_any_count.ensures ∙ c.if-not-may_any_count.true in
    passed_all c.args.two.now.scene.now.job.now c.args.two.now.scene.now.run.now left c.args.two.now.right.now.zone.now c.args.two.now.right.now.stretch.now c.args.two.now.right.now.stretch.now.boxes seen c.args.rows.now.items off so_far
