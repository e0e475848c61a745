use Rattle.std.proofs.Common.{◌∙◌, ◌++◌, ap₂}
use Rattle.explain_stops.proofs.TextLaws.{four_said}
use Rattle.explain_stops.specs.RaceTexts.{advice_text, race_text}
use Rattle.explain_stops.proofs.race_text.say_race.Goals as goal

pub returns : goal.returns
unfolding race_text
returns c =
    four_said _ _ _ _ _ _ _ _ _ c.say.ensures c.say_one.ensures c.say_one-2.ensures
    (c.say_advice.ensures ∙ ap₂ (λ prize remedy. c.say_one-2.new.text ++ advice_text prize remedy) c.race_prize.ensures c.race_remedy.ensures)
