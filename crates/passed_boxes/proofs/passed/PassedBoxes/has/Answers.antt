use Rattle.std.proofs.Common.{◌≡◌, ◌∙◌, List, ap, arith, option_copied}
use Rattle.passed_boxes.proofs.LatestLaws.{in_view, none_more, test_passes}
use Rattle.passed_boxes.specs.Latest.{from_place}
use Rattle.passed_boxes.specs.declared.passed.PassedBox.{PassedBox}
use Rattle.passed_boxes.proofs.passed.PassedBoxes.has.Goals as goal

pub loop-kept-preserved : goal.loop-kept-preserved
loop-kept-preserved c =
    none_more c.deref-kept-items.result.now c.loop-kept.kept-index c.kept-item.result c.args.cover.now (option_copied c.args.motion) c.loop-kept-test.true c.kept-item.is
    (λ cover motion. let on = c.is_same.ensures.all cover motion in let off = c.if-is_same.false in absurd cc) c.loop-kept.invariant

pub returns-then-is_same-clause-passes : goal.returns-then-is_same-clause-passes
returns-then-is_same-clause-passes c on test all =
    let same = c.is_same.ensures.same c.if-is_same.true in
    test_passes test c.deref-kept-items.result.now c.args.self.now c.self.inside.next c.loop-kept.kept-index c.kept-item.result c.args.cover.now (option_copied c.args.motion)
    (ap (λ (boxes : List PassedBox). from_place c.self.inside.next boxes) c.deref-kept-items.ensures.value ∙ c.self.view_is) c.loop-kept-test.true c.kept-item.is same.0 same.1 all

pub returns-clause-none : goal.returns-clause-none
returns-clause-none c off =
    in_view (λ (kept : PassedBox). kept.cover ≡ c.args.cover.now → kept.motion ≡ option_copied c.args.motion → ⊥) c.deref-kept-items.result.now c.args.self.now c.self.inside.next
    (ap (λ (boxes : List PassedBox). from_place c.self.inside.next boxes) c.deref-kept-items.ensures.value ∙ c.self.view_is)
    (λ k d within. let past = c.loop-kept-test.false in c.loop-kept.invariant k d (omega (arith, within, past)))
