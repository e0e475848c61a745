use Rattle.explain_places.proofs.TextLaws.{four}
use Rattle.explain_places.specs.Spans.{on_text}
use Rattle.explain_places.proofs.spans.say_on.Goals as goal

pub returns : goal.returns
unfolding on_text
returns c = four _ _ _ _ _ _ _ _ _ c.say.ensures c.say_channel.ensures c.say-2.ensures c.say_block.ensures
