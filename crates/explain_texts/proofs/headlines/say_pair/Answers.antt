use Rattle.explain_texts.proofs.TextLaws.{five_more}
use Rattle.explain_texts.specs.Headlines.{pair_text}
use Rattle.explain_texts.proofs.headlines.say_pair.Goals as goal

pub returns : goal.returns
unfolding pair_text
returns c = five_more _ _ _ _ _ _ _ _ _ _ _ c.say.ensures c.say_name.ensures c.say-2.ensures c.say_name-2.ensures c.say-3.ensures
