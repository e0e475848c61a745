use Rattle.explain_places.proofs.TextLaws.{two}
use Rattle.explain_places.specs.Spans.{start_text}
use Rattle.explain_places.proofs.spans.say_start.Goals as goal

pub returns : goal.returns
unfolding start_text
returns c = two _ _ _ _ _ c.say.ensures c.say_channel.ensures
