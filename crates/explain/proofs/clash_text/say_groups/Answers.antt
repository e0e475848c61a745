use Rattle.explain_texts.proofs.TextLaws.{two_more}
use Rattle.explain.specs.Clashes.{groups_text}
use Rattle.explain.proofs.clash_text.say_groups.Goals as goal

pub returns : goal.returns
unfolding groups_text
returns c = two_more _ _ _ _ _ c.say.ensures c.say_each.ensures
