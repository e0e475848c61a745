use Rattle.std.proofs.Common.{◌∙◌, sym}
use Rattle.explain_reach.proofs.LotLaws.{lots-from_test, test-from_lots}
use Rattle.explain_reach.proofs.lots.do_lots_meet.Goals as goal

pub returns : goal.returns
returns c = (
  (λ on. lots-from_test c.args.boxes.now c.args.others.now (sym c.any_meets.ensures ∙ on)),
  (λ meet. c.any_meets.ensures ∙ test-from_lots c.args.boxes.now c.args.others.now meet),
)
