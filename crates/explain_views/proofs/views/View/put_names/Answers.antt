use Rattle.std.proofs.Common.{◌∙◌, ◌++◌, ap}
use Rattle.explain_views.specs.Marks.{place_text}
use Rattle.explain_views.specs.Views.{names_text}
use Rattle.explain_views.proofs.PieceLaws.{five}
use Rattle.explain_views.proofs.views.View.put_names.Goals as goal

pub returns : goal.returns
unfolding names_text
returns c =
    five _ _ _ _ _ _ _ _ _ _ _ c.say.ensures (c.put_place.ensures ∙ ap (λ at. c.say.new.self ++ place_text at) c.across_place.ensures) c.say-2.ensures
    (c.put_place-2.ensures ∙ ap (λ at. c.say-2.new.self ++ place_text at) c.up_place.ensures) (c.say-3.ensures ∙ ap (λ name. c.put_place-2.new.text ++ name) c.up_name.ensures)
