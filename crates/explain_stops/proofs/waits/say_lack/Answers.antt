use Rattle.std.proofs.Common.{◌∙◌, ◌++◌, ℕ, List, ap}
use Rattle.explain_stops.proofs.TextLaws.{then_said}
use Rattle.explain_stops.specs.Remedies.{advice_of, advice_text}
use Rattle.explain_stops.specs.Waits.{lack_text}
use Rattle.explain_stops.proofs.waits.say_lack.Goals as goal

pub returns : goal.returns
unfolding lack_text
returns c =
    then_said _ _ _ _ _ c.say_lacking.ensures
    (c.say_advice.ensures ∙ ap (λ (advice : List ℕ). c.say_lacking.new.text ++ advice_text advice) (c.advice.ensures ∙ ap advice_of c.remedy_of.ensures))
