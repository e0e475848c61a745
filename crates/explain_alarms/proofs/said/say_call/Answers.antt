use Rattle.explain_alarms.proofs.TextLaws.{three_said}
use Rattle.explain_alarms.specs.Texts.{call_text}
use Rattle.explain_alarms.proofs.said.say_call.Goals as goal

pub returns : goal.returns
unfolding call_text
returns c = three_said _ _ _ _ _ _ _ c.say.ensures c.say_block.ensures c.say-2.ensures
