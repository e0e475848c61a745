use Rattle.std.proofs.Common.{◌≡◌, ◌∙◌, true, List, ap, subst}
use Rattle.std.proofs.lemmas.List.Elements.{All-nil}
use Rattle.explain_meetings.proofs.SeenLaws.{boxes_are}
use Rattle.explain_meetings.specs.NearSteps.{AreNearestSoFar, pairs_by}
use Rattle.zone_stretches.specs.Overlaps.{Pair}
use Rattle.explain_meetings.specs.PassedOwns.{ArePassed, reaches_no_further}
use Rattle.passed_boxes.specs.declared.passed.PassedBox.{PassedBox}
use Rattle.zone_stretches.specs.Cases.{place_of}
use Rattle.zone_stretches.specs.Stretches.{StretchView}
use Rattle.zone_stretches.specs.declared.stretches.ZoneBox.{ZoneBox}
use Rattle.std.proofs.Common.{◌++◌, sym}
use Rattle.std.specs.List.{flat_map}
use Rattle.explain_meetings.proofs.nearest.look_in_boxes.Goals as goal

pub returns : goal.returns
returns c seen are =
    let boxes : c.as_slice-owns.result.now ≡ c.args.left.now.stretch.now.boxes = c.as_slice-owns.ensures.value ∙ ap (λ (s : StretchView). s.boxes) c.stretch.view_is in
    subst (λ (ps : List Pair). AreNearestSoFar c.args.scene.now.job.now c.args.scene.now.run.now (seen ++ ps) c.look_owns.new.rows.items)
    (boxes_are c.args.left.now.zone.now c.args.left.now.stretch.now c.args.right.now.zone.now c.args.right.now.stretch.now)
    (subst (λ (owns : List ZoneBox). AreNearestSoFar c.args.scene.now.job.now c.args.scene.now.run.now
    (seen ++ flat_map (λ (own : ZoneBox). pairs_by c.args.right.now.zone.now c.args.right.now.stretch.now (place_of c.args.left.now.zone.now c.args.left.now.stretch.now own)) owns) c.look_owns.new.rows.items) boxes
    (λ covers. (c.in_ok-look_owns.ensures.near seen (λ covers'. (are covers', none)) covers).0))
  where
    none : ArePassed c.args.scene.now.job.now c.args.scene.now.run.now c.args.rows.now.items c.args.left.now.zone.now c.args.right.now.zone.now c.args.right.now.stretch.now c.new-passed.result
    none = subst (λ (passed : List PassedBox). ArePassed c.args.scene.now.job.now c.args.scene.now.run.now c.args.rows.now.items c.args.left.now.zone.now c.args.right.now.zone.now c.args.right.now.stretch.now passed)
        (sym c.new-passed.ensures)
        (All-nil (λ box. reaches_no_further c.args.scene.now.job.now c.args.scene.now.run.now c.args.rows.now.items c.args.left.now.zone.now c.args.right.now.zone.now c.args.right.now.stretch.now box.cover box.motion ≡ true))
