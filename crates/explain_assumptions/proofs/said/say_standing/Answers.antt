use Rattle.explain_assumptions.proofs.ListLaws.{four}
use Rattle.explain_assumptions.specs.Texts.{standing_text}
use Rattle.explain_assumptions.proofs.said.say_standing.Goals as goal

pub returns : goal.returns
unfolding standing_text
returns c = four _ _ _ _ _ _ _ _ _ c.say.ensures c.say_axis.ensures c.say-2.ensures c.say_block.ensures
