use Rattle.std.proofs.Common.{◌∙◌}
use Rattle.std.proofs.lemmas.Result.{IfOk-weaker}
use Rattle.explain.proofs.YesLaws.{yes_headed}
use Rattle.explain.proofs.explaining.yes_explained.Goals as goal

pub returns : goal.returns
returns c =
    IfOk-weaker c.yes_told.result _ _
    (λ text told. yes_headed _ _ _ _ _ _ _ _ _ _ c.new-text.ensures c.say_yes_line.ensures (c.as_slice.ensures.value ∙ c.in_ok-zones.ensures)
    (c.as_slice-2.ensures.value ∙ c.in_ok-zones.ensures) told)
    c.yes_told.ensures
