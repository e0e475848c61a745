use Rattle.std.proofs.Common.{rules, ◌∙◌, sym}
use Rattle.explain_reach.proofs.LotLaws.{lots-from_test, test-from_lots}
use Rattle.explain_reach.proofs.parted.PartedBoxes.meets.Goals as goal

pub returns-clause-test : goal.returns-clause-test
returns-clause-test c = search rules

pub returns-clause-share : goal.returns-clause-share
returns-clause-share c = (
  (λ on. lots-from_test c.args.self.now c.args.other.now (sym (returns-clause-test c) ∙ on)),
  (λ meet. returns-clause-test c ∙ test-from_lots c.args.self.now c.args.other.now meet),
)
