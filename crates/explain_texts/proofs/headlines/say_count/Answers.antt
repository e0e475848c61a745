use Rattle.std.proofs.Common.{ap, ◌++◌, ◌∙◌}
use Rattle.std.specs.Fmt.{decimal}
use Rattle.explain_texts.proofs.TextLaws.{five_more}
use Rattle.explain_texts.specs.Headlines.{count_text}
use Rattle.explain_texts.proofs.headlines.say_count.Goals as goal

pub returns : goal.returns
unfolding count_text
returns c =
    five_more _ _ _ _ _ _ _ _ _ _ _ c.say.ensures c.number.ensures c.say-2.ensures
    (c.number-2.ensures ∙ ap (λ n. c.say-2.new.self ++ decimal n) c.from.ensures) c.say-3.ensures
