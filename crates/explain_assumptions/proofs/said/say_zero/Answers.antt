use Rattle.explain_assumptions.proofs.ListLaws.{four}
use Rattle.explain_assumptions.specs.Texts.{zero_text}
use Rattle.explain_assumptions.proofs.said.say_zero.Goals as goal

pub returns : goal.returns
unfolding zero_text
returns c = four _ _ _ _ _ _ _ _ _ c.say.ensures c.say_parameter.ensures c.say-2.ensures c.say_block.ensures
