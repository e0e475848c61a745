use Rattle.std.proofs.Common.{◌∙◌, sym}
use Rattle.passed_boxes.proofs.SameLaws.{box_is_same, same_box}
use Rattle.passed_boxes.proofs.passed.is_same.Goals as goal

pub returns-then-eq-clause-same : goal.returns-then-eq-clause-same
returns-then-eq-clause-same c on = (same_box c.args.kept.now.cover c.args.cover.now (sym c.eq.ensures ∙ c.if-eq.true), c.move_alike.ensures.same on)

pub returns-else-eq-clause-all : goal.returns-else-eq-clause-all
returns-else-eq-clause-all c cover motion = c.eq.ensures ∙ box_is_same c.args.kept.now.cover c.args.cover.now cover
