use Rattle.explain_texts.proofs.TextLaws.{three_more}
use Rattle.explain_texts.specs.BoxTexts.{boxes_text}
use Rattle.explain_texts.proofs.box_texts.say_boxes.Goals as goal

pub returns : goal.returns
unfolding boxes_text
returns c = three_more _ _ _ _ _ _ _ c.say.ensures c.say_own.ensures c.say_own-2.ensures
