use Rattle.std.proofs.Common.{◌∙◌, ◌++◌, ap}
use Rattle.std.specs.Fmt.{decimal}
use Rattle.explain_stops.proofs.TextLaws.{five_said}
use Rattle.explain_stops.specs.Waits.{raising_text}
use Rattle.explain_stops.proofs.waits.say_raising.Goals as goal

pub returns : goal.returns
unfolding raising_text
returns c =
    five_said _ _ _ _ _ _ _ _ _ _ _ c.say.ensures (c.number.ensures ∙ ap (λ n. c.say.new.self ++ decimal n) c.from.ensures) c.say-2.ensures
    (c.number-2.ensures ∙ ap (λ n. c.say-2.new.self ++ decimal n) c.from-2.ensures) c.say-3.ensures
