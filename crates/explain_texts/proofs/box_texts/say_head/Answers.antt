use Rattle.explain_texts.proofs.TextLaws.{five_more}
use Rattle.explain_texts.specs.BoxTexts.{head_text}
use Rattle.explain_texts.proofs.box_texts.say_head.Goals as goal

pub returns : goal.returns
unfolding head_text
returns c = five_more _ _ _ _ _ _ _ _ _ _ _ c.say_place.ensures c.say_place-2.ensures c.say.ensures c.say_box.ensures c.say-2.ensures
