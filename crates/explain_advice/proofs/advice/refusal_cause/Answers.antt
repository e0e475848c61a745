use Rattle.explain_advice.specs.Advice.{refusals}
use Rattle.explain_advice.proofs.advice.refusal_cause.Goals as goal

pub returns : goal.returns
unfolding refusals
returns c = c.cause_of.ensures
