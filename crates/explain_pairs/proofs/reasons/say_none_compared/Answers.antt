use Rattle.explain_pairs.proofs.TextLaws.{three_more}
use Rattle.explain_pairs.specs.Reasons.{none_compared_text}
use Rattle.explain_pairs.proofs.reasons.say_none_compared.Goals as goal

pub returns : goal.returns
unfolding none_compared_text
returns c = three_more _ _ _ _ _ _ _ c.say.ensures c.say_why.ensures c.say-2.ensures
