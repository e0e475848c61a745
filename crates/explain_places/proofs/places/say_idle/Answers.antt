use Rattle.explain_places.proofs.TextLaws.{two}
use Rattle.explain_places.specs.Places.{idle_text}
use Rattle.explain_places.proofs.places.say_idle.Goals as goal

pub returns : goal.returns
unfolding idle_text
returns c = two _ _ _ _ _ c.say_holder.ensures c.say.ensures
