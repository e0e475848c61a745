use Rattle.std.proofs.Common.{◌∙◌, inl, inr, List, ap, refl, subst, sym}
use Rattle.box_tree.specs.Rows.{IsRowOf}
use Rattle.passed_boxes.specs.declared.passed.PassedBox.{PassedBox}
use Rattle.clash_check.proofs.KeptLaws.{Covers, no_rows}
use Rattle.clash_check.proofs.PassedLaws.{none_passed}
use Rattle.clash_check.specs.Keeping.{IsKeptOf}
use Rattle.clash_check.specs.Passing.{ArePassed}
use Rattle.clash_check.specs.declared.nearby.Kept.{Kept}
use Rattle.zone_stretches.specs.Stretches.{StretchView}
use Rattle.zone_stretches.specs.declared.stretches.ZoneBox.{ZoneBox}
use Rattle.clash_check.proofs.meetings.first_in_all_boxes.Goals as goal

pub loop-own-init : goal.loop-own-init
loop-own-init c = record {
  kept = elim c.renew.ensures.kept [
    | inl fresh ↦ record {
      covers = subst (λ (boxes : List ZoneBox). IsRowOf (Covers boxes) c.renew.new.memory.kept.covers) (c.deref.ensures.value ∙ ap (λ (s : StretchView). s.boxes) c.other.view_is) fresh.0;
      pieces =
          no_rows c.args.two.now.scene.now.job.now c.args.two.now.scene.now.run.now c.args.two.now.right.now.zone.now c.args.two.now.right.now.stretch.now c.args.two.now.right.now.stretch.now.boxes c.renew.new.memory.kept.pieces.rows fresh.1;
    }
    | inr same ↦ subst (λ (kept : Kept). IsKeptOf c.args.two.now.scene.now.job.now c.args.two.now.scene.now.run.now c.args.two.now.right.now.zone.now c.args.two.now.right.now.stretch.now c.args.two.now.right.now.stretch.now.boxes kept) (sym same.1) (c.requires.memory same.0).kept
  ];
  passed = elim c.renew.ensures.passed [
    | inl none ↦ none_passed c.args.two.now.scene.now.job.now c.args.two.now.scene.now.run.now c.args.two.now.left.now.zone.now c.args.two.now.right.now.zone.now c.args.two.now.right.now.stretch.now c.args.two.now.right.now.stretch.now.boxes c.renew.new.memory.passed none
    | inr same ↦ subst (λ (passed : List PassedBox). ArePassed c.args.two.now.scene.now.job.now c.args.two.now.scene.now.run.now c.args.two.now.left.now.zone.now c.args.two.now.right.now.zone.now c.args.two.now.right.now.stretch.now c.args.two.now.right.now.stretch.now.boxes passed) (sym same.1) (c.requires.memory same.0).passed
  ];
  at = c.renew.ensures.place;
  names = refl;
}
