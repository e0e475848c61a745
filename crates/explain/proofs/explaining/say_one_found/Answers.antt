use Rattle.std.proofs.Common.{ap, ◌++◌, ◌∙◌}
use Rattle.std.specs.Fmt.{decimal}
use Rattle.explain_texts.proofs.TextLaws.{four_more}
use Rattle.explain.specs.Explained.{one_found_text}
use Rattle.explain.proofs.explaining.say_one_found.Goals as goal

pub returns : goal.returns
unfolding one_found_text
returns c =
    four_more _ _ _ _ _ _ _ _ _ c.say.ensures (c.number.ensures ∙ ap (λ n. c.say.new.self ++ decimal n) (c.from.ensures ∙ c.channel.view_is)) c.say-2.ensures c.bytes.ensures
