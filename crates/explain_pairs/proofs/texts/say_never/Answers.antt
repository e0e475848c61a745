use Rattle.std.proofs.Common.{ap, ◌++◌, ◌∙◌}
use Rattle.std.specs.Fmt.{decimal}
use Rattle.explain_pairs.proofs.TextLaws.{three_more}
use Rattle.explain_pairs.specs.PairTexts.{never_text}
use Rattle.explain_pairs.proofs.texts.say_never.Goals as goal

pub returns : goal.returns
unfolding never_text
returns c = three_more _ _ _ _ _ _ _ c.say.ensures (c.number.ensures ∙ ap (λ n. c.say.new.self ++ decimal n) (c.from.ensures ∙ c.zone.view_is)) c.say-2.ensures
