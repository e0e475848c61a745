use Rattle.std.proofs.Common.{arith}
use Rattle.product_run.proofs.JudgedRuns.{comes}
use Rattle.product_run.proofs.Motions.{runs_in_order_are_maximal}
use Rattle.explain.proofs.answers.text_on.Goals as goal

pub text_of-requires-clause-whole : goal.text_of-requires-clause-whole
text_of-requires-clause-whole c = c.requires.judged.told

pub text_of-requires-clause-fit : goal.text_of-requires-clause-fit
text_of-requires-clause-fit c = c.requires.judged.fit

pub text_of-requires-clause-deep : goal.text_of-requires-clause-deep
text_of-requires-clause-deep c = c.requires.accepted.depth

pub text_of-requires-clause-few : goal.text_of-requires-clause-few
text_of-requires-clause-few c = let few = c.requires.judged.few in omega (arith, few)

pub text_of-requires-clause-comes : goal.text_of-requires-clause-comes
text_of-requires-clause-comes c = rw c.start_state-start.ensures.exact (comes _ _ c.requires.accepted (runs_in_order_are_maximal _ _ _ c.requires.judged.in_order))

pub text_of-requires-clause-made : goal.text_of-requires-clause-made
text_of-requires-clause-made c = (comes _ _ c.requires.accepted (runs_in_order_are_maximal _ _ _ c.requires.judged.in_order)).entries
