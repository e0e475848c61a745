use Rattle.std.proofs.Common.{◌∙◌, ◌++◌, ap}
use Rattle.std.specs.Fmt.{decimal}
use Rattle.explain_refused.specs.Refusals.{place_text}
use Rattle.explain_refused.proofs.TextLaws.{four_more}
use Rattle.explain_refused.proofs.refusal_text.say_place.Goals as goal

pub returns : goal.returns
unfolding place_text
returns c = four_more _ _ _ _ _ _ _ _ _ c.say.ensures (c.number.ensures ∙ ap (λ n. c.say.new.self ++ decimal n) c.from.ensures) c.say_origin.ensures c.say-2.ensures
