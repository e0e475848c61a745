use Rattle.explain_texts.proofs.TextLaws.{three_more}
use Rattle.explain.specs.Numbers.{numbers_text}
use Rattle.explain.proofs.other_texts.say_numbers.Goals as goal

pub returns : goal.returns
unfolding numbers_text
returns c = three_more _ _ _ _ _ _ _ c.say.ensures c.say_each_number.ensures c.say-2.ensures
