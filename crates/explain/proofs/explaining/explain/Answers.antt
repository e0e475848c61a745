use Rattle.std.proofs.Common.{◌∙◌}
use Rattle.std.proofs.lemmas.Result.{IfOk-weaker}
use Rattle.explain.proofs.explaining.explain.Goals as goal

pub say_granted-requires : goal.say_granted-requires
say_granted-requires c = c.as_slice.ensures.value ∙ c.in_ok-rows.ensures c.requires.made

pub returns : goal.returns
returns c =
    IfOk-weaker c.finish.result _ _
    (λ told is. record { body = c.in_ok-text.text; is = c.in_ok-text.ensures; whole = is ∙ c.say_granted.ensures })
    c.finish.ensures
