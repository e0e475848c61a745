use Rattle.std.proofs.Common.{ap, ◌++◌, ◌∙◌}
use Rattle.std.specs.Fmt.{decimal}
use Rattle.explain_texts.proofs.TextLaws.{two_more}
use Rattle.explain_texts.specs.Headlines.{holder_text}
use Rattle.explain_texts.proofs.headlines.say_holder.Goals as goal

pub returns-in-Some : goal.returns-in-Some
unfolding holder_text
returns-in-Some c =
    rw c.in-Some.is (two_more _ _ _ _ _ c.say.ensures (c.number.ensures ∙ ap (λ n. c.say.new.self ++ decimal n) (c.from.ensures ∙ c.channel.view_is)))

pub returns-in-None : goal.returns-in-None
unfolding holder_text
returns-in-None c = rw c.in-None.is c.say-in-None.ensures
