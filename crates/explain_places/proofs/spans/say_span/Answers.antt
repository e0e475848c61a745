use Rattle.explain_places.proofs.TextLaws.{five}
use Rattle.explain_places.specs.Spans.{span_text}
use Rattle.explain_places.proofs.spans.say_span.Goals as goal

pub returns : goal.returns
unfolding span_text
returns c = five _ _ _ _ _ _ _ _ _ _ _ c.say_zone_from.ensures c.say_first.ensures c.say.ensures c.say_last.ensures c.say-2.ensures
