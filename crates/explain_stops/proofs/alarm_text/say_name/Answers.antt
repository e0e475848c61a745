use Rattle.std.proofs.Common.{◌∙◌, ◌++◌, ap}
use Rattle.std.specs.Fmt.{decimal}
use Rattle.explain_stops.proofs.TextLaws.{five_said}
use Rattle.explain_stops.specs.Alarms.{name_text}
use Rattle.explain_stops.proofs.alarm_text.say_name.Goals as goal

pub returns : goal.returns
unfolding name_text
returns c =
    five_said _ _ _ _ _ _ _ _ _ _ _ c.say_channel_first.ensures c.say.ensures (c.number.ensures ∙ ap (λ n. c.say.new.self ++ decimal n) c.from.ensures) c.say-2.ensures
    (c.say-3.ensures ∙ ap (λ name. c.say-2.new.self ++ name) c.alarm_name.ensures)
