use Rattle.explain_texts.proofs.TextLaws.{two_more}
use Rattle.explain.specs.Room.{nears_text}
use Rattle.explain.proofs.other_texts.say_nears.Goals as goal

pub returns : goal.returns
unfolding nears_text
returns c = two_more _ _ _ _ _ c.say_all_near.ensures c.say_zone_pairs.ensures
