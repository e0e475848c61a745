use Rattle.std.proofs.Common.{◌∙◌, ◌++◌, List, ℕ, ap}
use Rattle.explain_refused.proofs.TextLaws.{three_more}
use Rattle.explain_refused.proofs.refusal_text.say_slip.Goals as goal

pub returns-in-Some : goal.returns-in-Some
returns-in-Some c =
    rw c.in-Some.is
    (three_more _ _ _ _ _ _ _ c.say.ensures (c.say-in-Some.ensures ∙ ap (λ (xs : List ℕ). c.say.new.self ++ xs) c.slip_advice.ensures) c.say-in-Some-2.ensures)
