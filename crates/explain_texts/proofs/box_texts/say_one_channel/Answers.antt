use Rattle.std.proofs.Common.{ap, ◌++◌, ◌∙◌}
use Rattle.std.specs.Fmt.{decimal}
use Rattle.explain_texts.proofs.TextLaws.{three_more}
use Rattle.explain_texts.specs.BoxTexts.{one_channel_text}
use Rattle.explain_texts.proofs.box_texts.say_one_channel.Goals as goal

pub returns : goal.returns
unfolding one_channel_text
returns c =
    three_more _ _ _ _ _ _ _ c.say.ensures (c.number.ensures ∙ ap (λ n. c.say.new.self ++ decimal n) (c.from.ensures ∙ c.channel.view_is)) c.say-2.ensures
