use Rattle.explain_assumptions.proofs.ListLaws.{five}
use Rattle.explain_assumptions.specs.Texts.{count_text}
use Rattle.explain_assumptions.proofs.said.say_count.Goals as goal

pub returns : goal.returns
unfolding count_text
returns c = five _ _ _ _ _ _ _ _ _ _ _ c.say.ensures c.say-2.ensures c.say-3.ensures c.number.ensures c.say-4.ensures
